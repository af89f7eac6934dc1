-- Fields of actions where values may be marks, and who gives them. (This profile.)
use Rattle.std.specs.Prelude.{ℕ, ◌≡◌, List, [], ◌∷◌, Contains, false}
use Rattle.spec_core.specs.Terms.{TermTree, preorder}
use Rattle.spec_core.specs.Theories.{Theory}
use Rattle.spec_core.specs.Code.{Variable, Binding, ExitValue, exit_given, exit_any, ActionField, give, accept}
use Rattle.rule_model.specs.declared.rules.Slot.{Slot}
use Rattle.rule_model.specs.declared.rules.Slot.TheVariants.{Of, Mark, Blank}
use Rattle.rule_model.specs.Fields.{Spells}
use Rattle.symbolic_rules.specs.Windows.{Windows, sort_of_value}
use Rattle.symbolic_rules.specs.MarkedTerms.{MarkedTerm, plain, mark, MarkedAssignment, with_marked, marked_instance, MayHaveValue}

-- A field of an action: a value that the expression of some participant tells; a value that is only chosen; the mark of a sort, from an
-- expression that holds a mark, which may give any value of the sort; the mark of a sort that is only chosen.
pub data MarkedField : Type 0 where
  told : List ℕ → MarkedField
  chosen : List ℕ → MarkedField
  given : ℕ → MarkedField
  free : ℕ → MarkedField

-- the field that an expression with this value makes
abbrev pub told_by : MarkedTerm → MarkedField
told_by (plain n) = told (preorder n)
told_by (mark sort) = given sort

-- the field that this chosen value makes
abbrev pub chosen_by : MarkedTerm → MarkedField
chosen_by (plain n) = chosen (preorder n)
chosen_by (mark sort) = free sort

abbrev pub sort_of_field : Theory → MarkedField → ℕ
sort_of_field theory (told v) = sort_of_value theory v
sort_of_field theory (chosen v) = sort_of_value theory v
sort_of_field theory (given sort) = sort
sort_of_field theory (free sort) = sort

-- Two fields at one place of an action agree, and are h together. Two values agree if they are one; it is told where one of them is. A
-- value agrees with a given mark of its sort, and stays what it is. Two marks of one sort agree; the mark is given where one of them is. A
-- value and a free mark don't agree.
abbrev pub Agree : Theory → MarkedField → MarkedField → MarkedField → Type 0
Agree theory (told v) (told u) h = (v ≡ u) × (h ≡ told v)
Agree theory (told v) (chosen u) h = (v ≡ u) × (h ≡ told v)
Agree theory (told v) (given sort) h = (sort_of_value theory v ≡ sort) × (h ≡ told v)
Agree theory (told v) (free sort) h = ⊥
Agree theory (chosen v) (told u) h = (v ≡ u) × (h ≡ told v)
Agree theory (chosen v) (chosen u) h = (v ≡ u) × (h ≡ chosen v)
Agree theory (chosen v) (given sort) h = (sort_of_value theory v ≡ sort) × (h ≡ chosen v)
Agree theory (chosen v) (free sort) h = ⊥
Agree theory (given sort) (told v) h = (sort_of_value theory v ≡ sort) × (h ≡ told v)
Agree theory (given sort) (chosen v) h = (sort_of_value theory v ≡ sort) × (h ≡ chosen v)
Agree theory (given sort) (given other) h = (sort ≡ other) × (h ≡ given sort)
Agree theory (given sort) (free other) h = (sort ≡ other) × (h ≡ given sort)
Agree theory (free sort) (told v) h = ⊥
Agree theory (free sort) (chosen v) h = ⊥
Agree theory (free sort) (given other) h = (sort ≡ other) × (h ≡ given sort)
Agree theory (free sort) (free other) h = (sort ≡ other) × (h ≡ free sort)

-- the fields of two actions agree, place by place
abbrev pub AllAgree : Theory → List MarkedField → List MarkedField → List MarkedField → Type 0
AllAgree theory [] [] hs = hs ≡ []
AllAgree theory (f ∷ fs) (g ∷ gs) (h ∷ hs) = Agree theory f g h × AllAgree theory fs gs hs
AllAgree theory _ _ hs = ⊥

-- fields of the sorts of these variables
abbrev pub HaveSortsOf : Theory → List Variable → List MarkedField → Type 0
HaveSortsOf theory [] [] = Unit {0}
HaveSortsOf theory (x ∷ xs) (f ∷ fs) = (sort_of_field theory f ≡ x.sort) × HaveSortsOf theory xs fs
HaveSortsOf theory _ _ = ⊥

-- a value that is only chosen lies in the window of its sort
abbrev pub IsWithin : Theory → Windows → MarkedField → Type 0
IsWithin theory w (chosen v) = Contains (w.values (sort_of_value theory v)) v
IsWithin theory w _ = Unit {0}

-- the slot chooses k for the sort: a value of the sort, or its mark, where its window isn't complete
abbrev pub Chooses : Theory → Windows → Slot → ℕ → MarkedTerm → Type 0
Chooses theory w (Of v) sort k = (n : TermTree) × Spells theory v n sort × (k ≡ plain n)
Chooses theory w Mark sort k = (w.complete sort ≡ false) × (k ≡ mark sort)
Chooses theory w Blank sort k = ⊥

-- The fields of an action may be these: `!E` what the value of E makes, `?x:S` what the next slot chooses. The variables had the terms and
-- marks l, and with those for the binders they have r. Each `!E` sees m, what is outside the action.
abbrev pub FieldsMayHave :
    Theory → Windows → MarkedAssignment → MarkedAssignment → List ActionField → List Slot → List MarkedField → MarkedAssignment → Type 0
FieldsMayHave theory w m l [] [] [] r = r ≡ l
FieldsMayHave theory w m l (give e ∷ fields) slots (f ∷ fs) r =
    ((k : MarkedTerm) × MayHaveValue theory (marked_instance theory m e) k × (f ≡ told_by k)) × FieldsMayHave theory w m l fields slots fs r
FieldsMayHave theory w m l (accept x ∷ fields) (slot ∷ slots) (f ∷ fs) r =
    (k : MarkedTerm) × Chooses theory w slot x.sort k × (f ≡ chosen_by k) ×
    FieldsMayHave theory w m (with_marked x k l) fields slots fs r
FieldsMayHave theory w m l _ _ _ r = ⊥

-- the fields of an exit may be these: E what the value of E makes, `any S` what the next slot chooses
abbrev pub ExitMayHave : Theory → Windows → MarkedAssignment → List ExitValue → List Slot → List MarkedField → Type 0
ExitMayHave theory w m [] [] [] = Unit {0}
ExitMayHave theory w m (exit_given e ∷ fields) slots (f ∷ fs) =
    ((k : MarkedTerm) × MayHaveValue theory (marked_instance theory m e) k × (f ≡ told_by k)) × ExitMayHave theory w m fields slots fs
ExitMayHave theory w m (exit_any sort ∷ fields) (slot ∷ slots) (f ∷ fs) =
    ((k : MarkedTerm) × Chooses theory w slot sort k × (f ≡ chosen_by k)) × ExitMayHave theory w m fields slots fs
ExitMayHave theory w m _ _ _ = ⊥

-- The variables had the terms and marks l, and with what `let` binds they have r. Each term sees m, what is outside the `let`.
abbrev pub BindingsMayHave : Theory → MarkedAssignment → MarkedAssignment → List Binding → MarkedAssignment → Type 0
BindingsMayHave theory m l [] r = r ≡ l
BindingsMayHave theory m l (b ∷ bindings) r =
    (k : MarkedTerm) × MayHaveValue theory (marked_instance theory m b.term) k ×
    BindingsMayHave theory m (with_marked b.variable k l) bindings r

-- the same with the values of a call's terms for the variables of its process
abbrev pub ArgumentsMayHave : Theory → MarkedAssignment → MarkedAssignment → List Variable → List TermTree → MarkedAssignment → Type 0
ArgumentsMayHave theory m l [] [] r = r ≡ l
ArgumentsMayHave theory m l (x ∷ xs) (e ∷ terms) r =
    (k : MarkedTerm) × MayHaveValue theory (marked_instance theory m e) k × ArgumentsMayHave theory m (with_marked x k l) xs terms r
ArgumentsMayHave theory m l _ _ r = ⊥
