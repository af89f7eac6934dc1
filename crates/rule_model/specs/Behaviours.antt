-- Behaviours with values, without places in memory. (ISO 8807: behaviour expressions.)
use Rattle.std.specs.Prelude.{ℕ, List, Option, map}
use Rattle.spec_core.specs.Numbers.{gate_number}
use Rattle.spec_core.specs.Terms.{TermTree, term_of}
use Rattle.spec_core.specs.Theories.{Premise, premise}
use Rattle.spec_core.specs.Code.{Variable, Binding, Relabelling, ExitValue, ActionField, Synchronised, variable_of, binding_of}
use Rattle.spec_core.specs.Code.{relabelling_of, exit_value_of, action_field_of, synchronised_of, guard_of}
use Rattle.rule_model.specs.declared.beh.Beh.{Beh}
use Rattle.rule_model.specs.declared.beh.Beh.TheVariants.{Stop, Exit, Inner', Act', Choice', Guard', Let', Values', Gates', Par', Hide'}
use Rattle.rule_model.specs.declared.beh.Beh.TheVariants.{Enable', Disable', Call, Relabel'}

-- A behaviour. Gates, variables and processes have numbers. A closed behaviour has no free variables: values stand in their places.
pub data Behaviour : Type 0 where
  -- `stop`
  stop : Behaviour
  -- `exit(e1, e2)`
  exit : List ExitValue → Behaviour
  -- `i; B`
  inner : Behaviour → Behaviour
  -- `g d1 d2 [p]; B`
  action : ℕ → List ActionField → Option Premise → Behaviour → Behaviour
  -- `B [] C`
  choice : Behaviour → Behaviour → Behaviour
  -- `[p] -> B`
  guarded : Premise → Behaviour → Behaviour
  -- `let x:S = E in B`
  bound : List Binding → Behaviour → Behaviour
  -- `choice x:S [] B`
  value_choice : Variable → Behaviour → Behaviour
  -- `choice g in [a1, a2] [] B`
  gate_choice : ℕ → List ℕ → Behaviour → Behaviour
  -- `B |[G]| C`; `||` has every gate in G, and `|||` none
  parallel : Synchronised → Behaviour → Behaviour → Behaviour
  -- `hide G in B`
  hide : List ℕ → Behaviour → Behaviour
  -- `B >> accept xs in C`
  enable : Behaviour → List Variable → Behaviour → Behaviour
  -- `B [> C`
  disable : Behaviour → Behaviour → Behaviour
  -- `P[a1, a2](E1, E2)`
  call : ℕ → List ℕ → List TermTree → Behaviour
  -- B with its gates relabelled: what `choice` and `par` over gates, and calls, come to
  relabel : List Relabelling → Behaviour → Behaviour

-- the behaviour that a value of the program stands for
abbrev pub behaviour_of : Beh → Behaviour
behaviour_of Stop = stop
behaviour_of (Exit fields) = exit (map exit_value_of fields.items)
behaviour_of (Inner' p rest) = inner (behaviour_of rest)
behaviour_of (Act' gate fields guard p rest) = action gate.0 (map action_field_of fields.items) (guard_of guard) (behaviour_of rest)
behaviour_of (Choice' p left q right) = choice (behaviour_of left) (behaviour_of right)
behaviour_of (Guard' left right p body) = guarded (premise (term_of left) (term_of right)) (behaviour_of body)
behaviour_of (Let' bindings p body) = bound (map binding_of bindings.items) (behaviour_of body)
behaviour_of (Values' x sort p body) = value_choice (record { number = x; sort = sort.0 }) (behaviour_of body)
behaviour_of (Gates' gate gates p body) = gate_choice gate.0 (map gate_number gates.items) (behaviour_of body)
behaviour_of (Par' gates p left q right) = parallel (synchronised_of gates) (behaviour_of left) (behaviour_of right)
behaviour_of (Hide' gates p body) = hide (map gate_number gates.items) (behaviour_of body)
behaviour_of (Enable' p left vars q right) = enable (behaviour_of left) (map variable_of vars.items) (behaviour_of right)
behaviour_of (Disable' p left q right) = disable (behaviour_of left) (behaviour_of right)
behaviour_of (Call called gates values) = call called (map gate_number gates.items) (map term_of values.items)
behaviour_of (Relabel' pairs p body) = relabel (map relabelling_of pairs.items) (behaviour_of body)
