-- Values of fields, of bindings and of arguments.
use Rattle.std.specs.Prelude.{ℕ, suc, ◌≡◌, List, [], ◌∷◌, Option, Some, None}
use Rattle.std.specs.List.{slice_get}
use Rattle.spec_core.specs.Terms.{TermTree, instance, preorder}
use Rattle.spec_core.specs.Theories.{Premise, premise, Theory}
use Rattle.spec_core.specs.Sorts.{HasSort, no_variables}
use Rattle.spec_core.specs.Equality.{Equal}
use Rattle.spec_core.specs.Values.{IsValue, HasValue}
use Rattle.spec_core.specs.Code.{Variable, Binding, ExitValue, exit_given, exit_any, ActionField, give, accept}
use Rattle.rule_model.specs.declared.rules.Slot.{Slot}
use Rattle.rule_model.specs.declared.rules.Slot.TheVariants.{Of}
use Rattle.rule_model.specs.Substitution.{Assignment, with_term}

-- the list of operations v spells n, a value of the sort
pub record Spells (theory : Theory) (v : List ℕ) (n : TermTree) (sort : ℕ) : Type 0 where
  pub spelled : v ≡ preorder n
  pub of_sort : HasSort theory no_variables n sort
  pub is_value : IsValue theory n

-- the list of operations v spells n, the value of the term t
pub record GivesValue (theory : Theory) (t : TermTree) (v : List ℕ) (n : TermTree) : Type 0 where
  pub value : HasValue theory t n
  pub spelled : v ≡ preorder n

-- the two sides are equal, with s x in the place of each variable x
abbrev pub PremiseHolds : Theory → Assignment → Premise → Type 0
PremiseHolds theory s (premise a b) = Equal theory (instance s a) (instance s b)

-- the predicate of an action holds, if it has one
abbrev pub GuardHolds : Theory → Assignment → Option Premise → Type 0
GuardHolds theory s None = Unit {0}
GuardHolds theory s (Some p) = PremiseHolds theory s p

-- The fields of an action have these values: `!E` the value of E, `?x:S` the next chosen value, a value of S. The variables had the terms
-- t, and with the values for the binders they have u. Each `!E` sees s, what is outside the action.
abbrev pub FieldsHave : Theory → Assignment → Assignment → List ActionField → List Slot → List (List ℕ) → Assignment → Type 0
FieldsHave theory s t [] [] [] u = u ≡ t
FieldsHave theory s t (give e ∷ fields) slots (v ∷ values) u =
    ((n : TermTree) × GivesValue theory (instance s e) v n) × FieldsHave theory s t fields slots values u
FieldsHave theory s t (accept x ∷ fields) (Of w ∷ slots) (v ∷ values) u =
    (w ≡ v) × (n : TermTree) × Spells theory w n x.sort × FieldsHave theory s (with_term x n t) fields slots values u
FieldsHave theory s t _ _ _ u = ⊥

-- the fields of an exit have these values: E the value of E, `any S` the next chosen value, a value of S
abbrev pub ExitHas : Theory → Assignment → List ExitValue → List Slot → List (List ℕ) → Type 0
ExitHas theory s [] [] [] = Unit {0}
ExitHas theory s (exit_given e ∷ fields) slots (v ∷ values) =
    ((n : TermTree) × GivesValue theory (instance s e) v n) × ExitHas theory s fields slots values
ExitHas theory s (exit_any sort ∷ fields) (Of w ∷ slots) (v ∷ values) =
    (w ≡ v) × ((n : TermTree) × Spells theory w n sort) × ExitHas theory s fields slots values
ExitHas theory s _ _ _ = ⊥

-- The variables had the terms t, and with the values that `let` binds they have u. Each term sees s, what is outside the `let`.
abbrev pub BindingsHave : Theory → Assignment → Assignment → List Binding → Assignment → Type 0
BindingsHave theory s t [] u = u ≡ t
BindingsHave theory s t (b ∷ bindings) u =
    (n : TermTree) × HasValue theory (instance s b.term) n × BindingsHave theory s (with_term b.variable n t) bindings u

-- the same with the values of a call's terms for the variables of its process
abbrev pub ArgumentsHave : Theory → Assignment → Assignment → List Variable → List TermTree → Assignment → Type 0
ArgumentsHave theory s t [] [] u = u ≡ t
ArgumentsHave theory s t (x ∷ xs) (e ∷ terms) u =
    (n : TermTree) × HasValue theory (instance s e) n × ArgumentsHave theory s (with_term x n t) xs terms u
ArgumentsHave theory s t _ _ u = ⊥

-- the same with the values of an exit for the variables of `accept`, each a value of its variable's sort
abbrev pub IsHandedOn : Theory → Assignment → List Variable → List (List ℕ) → Assignment → Type 0
IsHandedOn theory t [] [] u = u ≡ t
IsHandedOn theory t (x ∷ xs) (v ∷ values) u = (n : TermTree) × Spells theory v n x.sort × IsHandedOn theory (with_term x n t) xs values u
IsHandedOn theory t _ _ u = ⊥

-- the fact holds of the gate at this place of the list, counted from 1
abbrev pub OnGate : List ℕ → ℕ → (ℕ → Type 0) → Type 0
OnGate gates j P = (i h : ℕ) × (j ≡ suc i) × (slice_get gates i ≡ Some h) × P h
