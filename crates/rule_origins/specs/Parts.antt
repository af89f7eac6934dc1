-- The behaviours at the numbers of a specification's code, as a function.
use Rattle.std.specs.Prelude.{ℕ, zero, suc, List, Option, Some, None}
use Rattle.std.specs.List.{slice_get}
use Rattle.spec_core.specs.Code as code
use Rattle.spec_core.specs.Code.{Program, Node}
use Rattle.rule_model.specs.Behaviours.{Behaviour, stop, exit, inner, action, choice, guarded, bound, value_choice, gate_choice, parallel}
use Rattle.rule_model.specs.Behaviours.{hide, enable, disable, call, relabel}

-- the construct over the behaviours of its parts; `stop` where there is none, or a process's definition
abbrev pub over_parts : (ℕ → Behaviour) → Option Node → Behaviour
over_parts part None = stop
over_parts part (Some code.stop) = stop
over_parts part (Some (code.exit fields)) = exit fields
over_parts part (Some (code.inner i)) = inner (part i)
over_parts part (Some (code.action g fields guard i)) = action g fields guard (part i)
over_parts part (Some (code.choice i j)) = choice (part i) (part j)
over_parts part (Some (code.guarded p i)) = guarded p (part i)
over_parts part (Some (code.bound bindings i)) = bound bindings (part i)
over_parts part (Some (code.value_choice x i)) = value_choice x (part i)
over_parts part (Some (code.gate_choice g gates i)) = gate_choice g gates (part i)
over_parts part (Some (code.parallel gates i j)) = parallel gates (part i) (part j)
over_parts part (Some (code.hide gates i)) = hide gates (part i)
over_parts part (Some (code.enable i xs j)) = enable (part i) xs (part j)
over_parts part (Some (code.disable i j)) = disable (part i) (part j)
over_parts part (Some (code.call p gates terms)) = call p gates terms
over_parts part (Some (code.relabel pairs i)) = relabel pairs (part i)
over_parts part (Some (code.process gates xs i)) = stop

-- the behaviour at a number of the code, with no more than so many constructs inside one another
abbrev pub opened : List Node → ℕ → ℕ → Behaviour
opened code zero n = stop
opened code (suc depth) n = over_parts (opened code depth) (slice_get code n)

-- the behaviour at a number of the code: parts have lower numbers, so there are no more constructs inside one another
unfoldable pub behaviour_at : Program → ℕ → Behaviour
behaviour_at program n = opened program.code (suc n) n
