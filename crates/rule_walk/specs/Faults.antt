-- Why a tree gives a behaviour no step.
use Rattle.std.specs.Prelude.{ℕ, ◌≡◌, List, [], ◌∷◌}
use Rattle.spec_core.specs.Terms.{TermTree, term_of}
use Rattle.spec_core.specs.Theories.{Theory}
use Rattle.spec_core.specs.Budgets.{IsBeyond}
use Rattle.spec_core.specs.Code.{Program, Variable, Binding, ExitValue, ActionField}
use Rattle.spec_core.specs.Values.{HasValue}
use Rattle.rewriter.specs.Answers.{MeetsTooLarge}
use Rattle.rule_model.specs.declared.rules.Slot.{Slot}
use Rattle.rule_model.specs.Behaviours.{Behaviour}
use Rattle.rule_model.specs.Derivations.{Derivation}
use Rattle.rule_model.specs.Fields.{FieldsHave, ExitHas, BindingsHave, ArgumentsHave, IsHandedOn}
use Rattle.rule_model.specs.Substitution.{Assignment}
use Rattle.rule_walk.specs.declared.fault.FireFault.{FireFault}
use Rattle.rule_walk.specs.declared.fault.FireFault.TheVariants.{Unfit, Spent, TooLarge, Memory}
use Rattle.rule_walk.specs.Asking.{Asks}
use Rattle.rule_walk.specs.Parts.{IsUnfitAt}

-- where the fault is that a rule doesn't fit, P holds of its path
abbrev pub OnUnfit : FireFault → (List ℕ → Type 0) → Type 0
OnUnfit (Unfit at) P = P at.items
OnUnfit (Spent term) P = Unit {0}
OnUnfit (TooLarge term) P = Unit {0}
OnUnfit Memory P = Unit {0}

-- where the fault is that the budget is spent, P holds of the term
abbrev pub OnSpent : FireFault → (TermTree → Type 0) → Type 0
OnSpent (Unfit at) P = Unit {0}
OnSpent (Spent term) P = P (term_of term)
OnSpent (TooLarge term) P = Unit {0}
OnSpent Memory P = Unit {0}

-- where the fault is that a value is too large, P holds of the term
abbrev pub OnTooLarge : FireFault → (TermTree → Type 0) → Type 0
OnTooLarge (Unfit at) P = Unit {0}
OnTooLarge (Spent term) P = Unit {0}
OnTooLarge (TooLarge term) P = P (term_of term)
OnTooLarge Memory P = Unit {0}

-- A fault says why: a rule doesn't fit only at a path of which U holds; only a term of which A holds has no value within the budget, or
-- meets a value that is too large. Want of memory is free.
pub record Explains (theory : Theory) (budget : ℕ) (U : List ℕ → Type 0) (A : TermTree → Type 0) (f : FireFault) : Type 0 where
  pub unfit : OnUnfit f U
  pub spent : OnSpent f (λ x. A x × IsBeyond theory x budget)
  pub too_large : OnTooLarge f (λ x. A x × MeetsTooLarge theory x)

-- the path leads to the root, where P holds
abbrev pub Here : Type 0 → List ℕ → Type 0
Here P path = (path ≡ []) × P

-- the path leads to this part, and within it to a place of which U holds
abbrev pub Within : ℕ → (List ℕ → Type 0) → List ℕ → Type 0
Within place U path = (inner : List ℕ) × (path ≡ place ∷ inner) × U inner

-- the rule at the root doesn't fit, and P holds, or memory is wanting
abbrev pub IsMisfit : Type 0 → FireFault → Type 0
IsMisfit P (Unfit at) = Here P at.items
IsMisfit P (Spent term) = ⊥
IsMisfit P (TooLarge term) = ⊥
IsMisfit P Memory = Unit {0}

-- a rule doesn't fit at this path, or memory is wanting
abbrev pub IsAtPath : List ℕ → FireFault → Type 0
IsAtPath path (Unfit at) = at.items ≡ path
IsAtPath path (Spent term) = ⊥
IsAtPath path (TooLarge term) = ⊥
IsAtPath path Memory = Unit {0}

-- the second fault says of the whole tree what the first one says of this part, or memory is wanting
abbrev pub IsBelow : ℕ → FireFault → FireFault → Type 0
IsBelow place (Unfit at) e = IsAtPath (place ∷ at.items) e
IsBelow place (Spent term) e = e ≡ Spent term
IsBelow place (TooLarge term) e = e ≡ TooLarge term
IsBelow place Memory e = e ≡ Memory

-- a term has no value
abbrev pub HasNoValue : Theory → TermTree → Type 0
HasNoValue theory t = (n : TermTree) → HasValue theory t n → ⊥

-- the fields of an action, those of an exit, the bindings of a `let`, and the terms of a call have no values, and the values of an exit
-- don't fit the variables
abbrev pub HasNoFields : Theory → Assignment → Assignment → List ActionField → List Slot → Type 0
HasNoFields theory s t fields slots = (values : List (List ℕ)) (u : Assignment) → FieldsHave theory s t fields slots values u → ⊥

abbrev pub HasNoExit : Theory → Assignment → List ExitValue → List Slot → Type 0
HasNoExit theory s fields slots = (values : List (List ℕ)) → ExitHas theory s fields slots values → ⊥

abbrev pub HasNoBindings : Theory → Assignment → Assignment → List Binding → Type 0
HasNoBindings theory s t bindings = (u : Assignment) → BindingsHave theory s t bindings u → ⊥

abbrev pub HasNoArguments : Theory → Assignment → Assignment → List Variable → List TermTree → Type 0
HasNoArguments theory s t xs terms = (u : Assignment) → ArgumentsHave theory s t xs terms u → ⊥

abbrev pub HandsOnNothing : Theory → Assignment → List Variable → List (List ℕ) → Type 0
HandsOnNothing theory t xs values = (u : Assignment) → IsHandedOn theory t xs values u → ⊥

-- the fault explains why the tree gives the behaviour no step
abbrev pub IsFault : Program → ℕ → Assignment → Behaviour → Derivation → FireFault → Type 0
IsFault program budget s b d f = Explains program.theory budget (IsUnfitAt program s b d) (Asks program s b d) f
