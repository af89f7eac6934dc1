-- Behaviours whose terms have their sorts. (ISO 8807, static semantics: sorts of value expressions.)
use Rattle.std.specs.Prelude.{ℕ, ◌≡◌, ◌<◌, ◌^◌, List, Option, Some, length}
use Rattle.std.specs.List.{slice_get}
use Rattle.spec_core.specs.Code as code
use Rattle.spec_core.specs.Code.{ExitValue, Program, Variable, exit_any, exit_given}
use Rattle.spec_core.specs.Functionality.{BindingFits, FieldFits, Fits, GuardFits, ValuesFit, accepted, bound_variables, with_variable}
use Rattle.spec_core.specs.Functionality.{with_variables}
use Rattle.spec_core.specs.Lists.{Each}
use Rattle.spec_core.specs.Sorts.{PremiseFits}
use Rattle.spec_core.specs.Terms.{TermTree}
use Rattle.rule_model.specs.Behaviours.{Behaviour, stop, exit, inner, action, choice, guarded, bound, value_choice, gate_choice, parallel}
use Rattle.rule_model.specs.Behaviours.{hide, enable, disable, call, relabel}

-- few enough gates to be counted in 32 bits
abbrev pub AreFew : List ℕ → Type 0
AreFew gates = length gates < 2 ^ 32

-- each choice of a gate in the code has few gates
abbrev pub HasFewGates : Program → Type 0
HasFewGates program =
    (n g : ℕ) (gates : List ℕ) (part : ℕ) → slice_get program.code n ≡ Some (code.gate_choice g gates part) → AreFew gates

module _ (program : Program) where
  -- an expression of an exit has some sort
  abbrev pub ExitFits : (ℕ → Option ℕ) → ExitValue → Type 0
  ExitFits vars (exit_given t) = Fits program.theory vars t
  ExitFits vars (exit_any sort) = Unit {0}

  -- the terms of a call have the sorts of the process's variables
  abbrev pub CallFits : (ℕ → Option ℕ) → ℕ → List TermTree → Type 0
  CallFits vars p terms =
      (formal : List ℕ) (xs : List Variable) (part : ℕ) → slice_get program.code p ≡ Some (code.process formal xs part) →
      ValuesFit program.theory vars terms xs

  -- each term of the behaviour has its sort, with these sorts of the free variables, and each choice of a gate has few gates
  abbrev pub BehaviourFits : (ℕ → Option ℕ) → Behaviour → Type 0
  BehaviourFits vars stop = Unit {0}
  BehaviourFits vars (exit fields) = Each (ExitFits vars) fields
  BehaviourFits vars (inner b) = BehaviourFits vars b
  BehaviourFits vars (action g fields guard b) =
      Each (FieldFits program.theory vars) fields × GuardFits program.theory (with_variables (accepted fields) vars) guard ×
      BehaviourFits (with_variables (accepted fields) vars) b
  BehaviourFits vars (choice b c) = BehaviourFits vars b × BehaviourFits vars c
  BehaviourFits vars (guarded p b) = PremiseFits program.theory vars p × BehaviourFits vars b
  BehaviourFits vars (bound bindings b) =
      Each (BindingFits program.theory vars) bindings × BehaviourFits (with_variables (bound_variables bindings) vars) b
  BehaviourFits vars (value_choice x b) = BehaviourFits (with_variable x vars) b
  BehaviourFits vars (gate_choice g gates b) = AreFew gates × BehaviourFits vars b
  BehaviourFits vars (parallel gates b c) = BehaviourFits vars b × BehaviourFits vars c
  BehaviourFits vars (hide gates b) = BehaviourFits vars b
  BehaviourFits vars (enable b xs c) = BehaviourFits vars b × BehaviourFits (with_variables xs vars) c
  BehaviourFits vars (disable b c) = BehaviourFits vars b × BehaviourFits vars c
  BehaviourFits vars (call p gates terms) = CallFits vars p terms
  BehaviourFits vars (relabel pairs b) = BehaviourFits vars b
