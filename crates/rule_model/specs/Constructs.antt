-- What holds of the parts of a construct.
use Rattle.std.specs.Prelude.{ℕ, List, Option}
use Rattle.spec_core.specs.Terms.{TermTree}
use Rattle.spec_core.specs.Theories.{Premise}
use Rattle.spec_core.specs.Code.{Variable, Binding, Relabelling, ExitValue, ActionField, Synchronised}
use Rattle.rule_model.specs.Behaviours.{Behaviour, stop, exit, inner, action, choice, guarded, bound, value_choice, gate_choice, parallel}
use Rattle.rule_model.specs.Behaviours.{hide, enable, disable, call, relabel}

-- In each of these: the fact holds of the parts of the construct; any other behaviour is none.
abbrev pub OnExit : Behaviour → (List ExitValue → Type 0) → Type 0
OnExit (exit fields) P = P fields
OnExit _ P = ⊥

abbrev pub OnInner : Behaviour → (Behaviour → Type 0) → Type 0
OnInner (inner rest) P = P rest
OnInner _ P = ⊥

abbrev pub OnAction : Behaviour → (ℕ → List ActionField → Option Premise → Behaviour → Type 0) → Type 0
OnAction (action g fields guard rest) P = P g fields guard rest
OnAction _ P = ⊥

abbrev pub OnChoice : Behaviour → (Behaviour → Behaviour → Type 0) → Type 0
OnChoice (choice left right) P = P left right
OnChoice _ P = ⊥

abbrev pub OnGuarded : Behaviour → (Premise → Behaviour → Type 0) → Type 0
OnGuarded (guarded p body) P = P p body
OnGuarded _ P = ⊥

abbrev pub OnBound : Behaviour → (List Binding → Behaviour → Type 0) → Type 0
OnBound (bound bindings body) P = P bindings body
OnBound _ P = ⊥

abbrev pub OnValueChoice : Behaviour → (Variable → Behaviour → Type 0) → Type 0
OnValueChoice (value_choice x body) P = P x body
OnValueChoice _ P = ⊥

abbrev pub OnGateChoice : Behaviour → (ℕ → List ℕ → Behaviour → Type 0) → Type 0
OnGateChoice (gate_choice g gates body) P = P g gates body
OnGateChoice _ P = ⊥

abbrev pub OnParallel : Behaviour → (Synchronised → Behaviour → Behaviour → Type 0) → Type 0
OnParallel (parallel gates left right) P = P gates left right
OnParallel _ P = ⊥

abbrev pub OnHide : Behaviour → (List ℕ → Behaviour → Type 0) → Type 0
OnHide (hide gates body) P = P gates body
OnHide _ P = ⊥

abbrev pub OnEnable : Behaviour → (Behaviour → List Variable → Behaviour → Type 0) → Type 0
OnEnable (enable left xs right) P = P left xs right
OnEnable _ P = ⊥

abbrev pub OnDisable : Behaviour → (Behaviour → Behaviour → Type 0) → Type 0
OnDisable (disable left right) P = P left right
OnDisable _ P = ⊥

abbrev pub OnCall : Behaviour → (ℕ → List ℕ → List TermTree → Type 0) → Type 0
OnCall (call p gates terms) P = P p gates terms
OnCall _ P = ⊥

abbrev pub OnRelabel : Behaviour → (List Relabelling → Behaviour → Type 0) → Type 0
OnRelabel (relabel pairs body) P = P pairs body
OnRelabel _ P = ⊥
