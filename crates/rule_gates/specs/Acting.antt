-- At which gates a behaviour may act. (ISO 8807: each gate of a behaviour is one of the heading, or bound.)
use Rattle.std.specs.Prelude.{ℕ, ◌≡◌, ◌⊎◌, ◌<◌, List, Some, length}
use Rattle.std.specs.List.{slice_get}
use Rattle.spec_core.specs.Code as code
use Rattle.spec_core.specs.Code.{Program, Variable}
use Rattle.spec_core.specs.Lists.{Each, IsOneOf}
use Rattle.rule_model.specs.Actions.{Kind, inside, ends, at_gate, renamed}
use Rattle.rule_model.specs.Behaviours.{Behaviour, stop, exit, inner, action, choice, guarded, bound, value_choice, gate_choice, parallel}
use Rattle.rule_model.specs.Behaviours.{hide, enable, disable, call, relabel}

-- an action of this kind is internal, or the termination, or at a gate of which P holds
abbrev pub IsAt : (ℕ → Type 0) → Kind → Type 0
IsAt P inside = Unit {0}
IsAt P ends = Unit {0}
IsAt P (at_gate g) = P g

module _ (program : Program) where
  -- a call has as many gates as the process
  abbrev pub HasItsGates : ℕ → List ℕ → Type 0
  HasItsGates p actual =
      (formal : List ℕ) (xs : List Variable) (part : ℕ) → slice_get program.code p ≡ Some (code.process formal xs part) →
      length actual ≡ length formal

  -- P holds of each gate of the behaviour that isn't bound in it
  abbrev pub ActsAt : (ℕ → Type 0) → Behaviour → Type 0
  ActsAt P stop = Unit {0}
  ActsAt P (exit fields) = Unit {0}
  ActsAt P (inner b) = ActsAt P b
  ActsAt P (action g fields guard b) = P g × ActsAt P b
  ActsAt P (choice b c) = ActsAt P b × ActsAt P c
  ActsAt P (guarded p b) = ActsAt P b
  ActsAt P (bound bindings b) = ActsAt P b
  ActsAt P (value_choice x b) = ActsAt P b
  ActsAt P (gate_choice g gates b) = Each P gates × ActsAt (λ h. (h ≡ g) ⊎ P h) b
  ActsAt P (parallel gates b c) = ActsAt P b × ActsAt P c
  ActsAt P (hide gates b) = ActsAt (λ h. IsOneOf h gates ⊎ P h) b
  ActsAt P (enable b xs c) = ActsAt P b × ActsAt P c
  ActsAt P (disable b c) = ActsAt P b × ActsAt P c
  ActsAt P (call p gates terms) = Each P gates × HasItsGates p gates
  ActsAt P (relabel pairs b) = Each (λ m. P m.to) pairs × ActsAt (λ h. P (renamed pairs h)) b

  -- the gate is one of the heading
  abbrev pub IsOfHeading : ℕ → Type 0
  IsOfHeading g = g < length program.gates
