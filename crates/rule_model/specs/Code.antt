-- Which behaviour stands at a number of a specification's code.
use Rattle.std.specs.Prelude.{ℕ, ◌≡◌, List, Some}
use Rattle.std.specs.List.{slice_get}
use Rattle.spec_core.specs.Code as code
use Rattle.spec_core.specs.Code.{Program, Variable, Relabelling}
use Rattle.rule_model.specs.Behaviours.{Behaviour, stop, exit, inner, action, choice, guarded, bound, value_choice, gate_choice, parallel}
use Rattle.rule_model.specs.Behaviours.{hide, enable, disable, call, relabel}

-- the behaviour stands at the number: construct by construct, with the behaviours at the numbers of its parts
abbrev pub StandsAt : Program → ℕ → Behaviour → Type 0
StandsAt program n stop = slice_get program.code n ≡ Some code.stop
StandsAt program n (exit fields) = slice_get program.code n ≡ Some (code.exit fields)
StandsAt program n (inner b) = (i : ℕ) × (slice_get program.code n ≡ Some (code.inner i)) × StandsAt program i b
StandsAt program n (action g fields guard b) =
    (i : ℕ) × (slice_get program.code n ≡ Some (code.action g fields guard i)) × StandsAt program i b
StandsAt program n (choice b c) =
    (i j : ℕ) × (slice_get program.code n ≡ Some (code.choice i j)) × StandsAt program i b × StandsAt program j c
StandsAt program n (guarded p b) = (i : ℕ) × (slice_get program.code n ≡ Some (code.guarded p i)) × StandsAt program i b
StandsAt program n (bound bindings b) = (i : ℕ) × (slice_get program.code n ≡ Some (code.bound bindings i)) × StandsAt program i b
StandsAt program n (value_choice x b) = (i : ℕ) × (slice_get program.code n ≡ Some (code.value_choice x i)) × StandsAt program i b
StandsAt program n (gate_choice g gates b) =
    (i : ℕ) × (slice_get program.code n ≡ Some (code.gate_choice g gates i)) × StandsAt program i b
StandsAt program n (parallel gates b c) =
    (i j : ℕ) × (slice_get program.code n ≡ Some (code.parallel gates i j)) × StandsAt program i b × StandsAt program j c
StandsAt program n (hide gates b) = (i : ℕ) × (slice_get program.code n ≡ Some (code.hide gates i)) × StandsAt program i b
StandsAt program n (enable b xs c) =
    (i j : ℕ) × (slice_get program.code n ≡ Some (code.enable i xs j)) × StandsAt program i b × StandsAt program j c
StandsAt program n (disable b c) =
    (i j : ℕ) × (slice_get program.code n ≡ Some (code.disable i j)) × StandsAt program i b × StandsAt program j c
StandsAt program n (call p gates terms) = slice_get program.code n ≡ Some (code.call p gates terms)
StandsAt program n (relabel pairs b) = (i : ℕ) × (slice_get program.code n ≡ Some (code.relabel pairs i)) × StandsAt program i b

-- the specification's behaviour
abbrev pub IsStart : Program → Behaviour → Type 0
IsStart program b = StandsAt program program.start b

-- the process with this number has these gates, these variables and this body
pub record IsDefinition (program : Program) (p : ℕ) (gates : List ℕ) (xs : List Variable) (body : Behaviour) : Type 0 where
  pub part : ℕ
  pub defines : slice_get program.code p ≡ Some (code.process gates xs part)
  pub stands : StandsAt program part body
