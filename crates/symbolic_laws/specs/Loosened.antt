-- The tree that is seen in the place of a tree of rules: the same tree, with marks in the places of the values that lie beyond their windows
-- and that nothing gives. (This profile.)
use Rattle.std.specs.Prelude.{ℕ, ◌≡◌, ◌==◌, ◌||◌, not, List, [], ◌∷◌, Option, Some, None, Bool, true, false, if◌then◌else◌}
use Rattle.spec_core.specs.Terms.{TermTree, TermTrees, variable, apply, no_terms, and_term}
use Rattle.spec_core.specs.Code.{Program, Variable, Binding, ExitValue, exit_given, exit_any, ActionField, give, accept}
use Rattle.rule_model.specs.declared.offer.Field.{Field}
use Rattle.rule_model.specs.declared.offer.Field.TheVariants.{Give, Take}
use Rattle.rule_model.specs.declared.offer.Offer.{Offer}
use Rattle.rule_model.specs.declared.rules.Slot.{Slot}
use Rattle.rule_model.specs.declared.rules.Slot.TheVariants.{Of, Mark, Blank}
use Rattle.rule_model.specs.Actions.{pairs_of}
use Rattle.rule_model.specs.Behaviours.{Behaviour, relabel}
use Rattle.rule_model.specs.Code.{IsDefinition}
use Rattle.rule_model.specs.Constructs.{OnExit, OnInner, OnAction, OnChoice, OnGuarded, OnBound, OnValueChoice, OnGateChoice, OnParallel}
use Rattle.rule_model.specs.Constructs.{OnHide, OnEnable, OnDisable, OnCall, OnRelabel}
use Rattle.rule_model.specs.Derivations.{Derivation, pre, int, exiting, chl, chr, val, gate, guard, letting, parl, parr, both, hiding, pass}
use Rattle.rule_model.specs.Derivations.{enstep, enend, disstep, disend, distake, calling, rel}
use Rattle.rule_model.specs.Fields.{OnGate}
use Rattle.symbolic_rules.specs.Windows.{Windows}
use Rattle.symbolic_rules.specs.Trees.{is_mark}
use Rattle.symbolic_composites.specs.OpenFields.{is_listed}

-- which variables have marks
abbrev pub Marking : Type 0
Marking = ℕ → Bool

abbrev pub no_marks : Marking
no_marks x = false

-- the variable x has a mark, or none; each other one is as it was
abbrev pub with_mark : Variable → Bool → Marking → Marking
with_mark x b marks y = if y == x.number then b else marks y

-- a variable of the term has a mark
abbrev mutual
  pub holds_mark : Marking → TermTree → Bool
  holds_mark marks (variable x) = marks x
  holds_mark marks (apply f ts) = hold_mark marks ts

  pub hold_mark : Marking → TermTrees → Bool
  hold_mark marks no_terms = false
  hold_mark marks (and_term t ts) = holds_mark marks t || hold_mark marks ts

-- what `let` binds has a mark where its term holds one; each term sees `outside`
abbrev pub marks_bound : Marking → Marking → List Binding → Marking
marks_bound outside marks [] = marks
marks_bound outside marks (b ∷ bindings) = marks_bound outside (with_mark b.variable (holds_mark outside b.term) marks) bindings

-- the same with the terms of a call for the variables of its process
abbrev pub marks_passed : Marking → Marking → List Variable → List TermTree → Marking
marks_passed outside marks (x ∷ xs) (t ∷ terms) = marks_passed outside (with_mark x (holds_mark outside t) marks) xs terms
marks_passed outside marks _ _ = marks

-- for each place of an action, or of an exit, whether its expression tells the value: it is an expression without a mark
abbrev pub told_in : Marking → List ActionField → List Bool
told_in marks [] = []
told_in marks (give t ∷ fields) = not (holds_mark marks t) ∷ told_in marks fields
told_in marks (accept x ∷ fields) = false ∷ told_in marks fields

abbrev pub told_at_exit : Marking → List ExitValue → List Bool
told_at_exit marks [] = []
told_at_exit marks (exit_given t ∷ fields) = not (holds_mark marks t) ∷ told_at_exit marks fields
told_at_exit marks (exit_any sort ∷ fields) = false ∷ told_at_exit marks fields

-- place by place, whether one or the other is so
abbrev pub either_told : List Bool → List Bool → List Bool
either_told (a ∷ as1) (b ∷ bs) = (a || b) ∷ either_told as1 bs
either_told _ _ = []

-- for each place, whether the value is given: it is told, or the offer gives it by `!`
abbrev pub given_for : List Bool → List Field → List Bool
given_for (t ∷ told) (Give v ∷ fields) = true ∷ given_for told fields
given_for (t ∷ told) (Take sort ∷ fields) = t ∷ given_for told fields
given_for _ _ = []

abbrev pub given_by : List Bool → Option Offer → List Bool
given_by told None = told
given_by told (Some offer) = given_for told offer.fields

-- a value that is given, or that lies in the window of its sort, stays; the mark takes the place of any other
abbrev pub loosened_slot : Windows → ℕ → Bool → Slot → Slot
loosened_slot w sort is_given (Of v) = if is_given || is_listed v (w.values sort) then Of v else Mark
loosened_slot w sort is_given Mark = Mark
loosened_slot w sort is_given Blank = Blank

-- the values at `?` of an action, and at `any` of an exit, where these places are given
abbrev pub loosened_slots : Windows → List ActionField → List Bool → List Slot → List Slot
loosened_slots w (give t ∷ fields) (g ∷ given) slots = loosened_slots w fields given slots
loosened_slots w (accept x ∷ fields) (g ∷ given) (slot ∷ slots) = loosened_slot w x.sort g slot ∷ loosened_slots w fields given slots
loosened_slots w _ _ slots = slots

abbrev pub loosened_at_exit : Windows → List ExitValue → List Bool → List Slot → List Slot
loosened_at_exit w (exit_given t ∷ fields) (g ∷ given) slots = loosened_at_exit w fields given slots
loosened_at_exit w (exit_any sort ∷ fields) (g ∷ given) (slot ∷ slots) = loosened_slot w sort g slot ∷ loosened_at_exit w fields given slots
loosened_at_exit w _ _ slots = slots

module _ (program : Program) (w : Windows) where
  -- The tree d of the behaviour b, whose free variables have these marks, loosened is e, where these places of its action are given; at the
  -- places in `told` an expression of a participant tells the value. One row for each kind of tree, as in `DerivesWith`:
  --   pre, exiting: a value at a `?` or an `any` stays where it is given, or lies in its window;
  --   val: nothing gives the value of a choice, so it stays where it lies in its window;
  --   letting, calling: a variable has a mark where its term holds one;
  --   both: a value is told where one side tells it, and what is given is so for both;
  --   hiding, enend: the action isn't seen, so nobody else gives a value: what is given is what is told;
  --   all others as their part.
  abbrev pub LoosensWith : Marking → List Bool → Behaviour → Derivation → Derivation → List Bool → Type 0
  LoosensWith marks given b (pre slots) e told =
      OnAction b (λ g fields p rest. (e ≡ pre (loosened_slots w fields given slots)) × (told ≡ told_in marks fields))
  LoosensWith marks given b int e told = OnInner b (λ rest. (e ≡ int) × (told ≡ []))
  LoosensWith marks given b (exiting slots) e told =
      OnExit b (λ fields. (e ≡ exiting (loosened_at_exit w fields given slots)) × (told ≡ told_at_exit marks fields))
  LoosensWith marks given b (chl d) e told =
      OnChoice b (λ left right. (f : Derivation) × (e ≡ chl f) × LoosensWith marks given left d f told)
  LoosensWith marks given b (chr d) e told =
      OnChoice b (λ left right. (f : Derivation) × (e ≡ chr f) × LoosensWith marks given right d f told)
  LoosensWith marks given b (val slot d) e told =
      OnValueChoice b (λ x body.
      (f : Derivation) × (e ≡ val (loosened_slot w x.sort false slot) f) ×
      LoosensWith (with_mark x (is_mark (loosened_slot w x.sort false slot)) marks) given body d f told)
  LoosensWith marks given b (gate j d) e told =
      OnGateChoice b (λ g gates body.
      OnGate gates j (λ h.
      (f : Derivation) × (e ≡ gate j f) × LoosensWith marks given (relabel (record { from = g; to = h } ∷ []) body) d f told))
  LoosensWith marks given b (guard d) e told =
      OnGuarded b (λ p body. (f : Derivation) × (e ≡ guard f) × LoosensWith marks given body d f told)
  LoosensWith marks given b (letting d) e told =
      OnBound b (λ bindings body. (f : Derivation) × (e ≡ letting f) × LoosensWith (marks_bound marks marks bindings) given body d f told)
  LoosensWith marks given b (parl d) e told =
      OnParallel b (λ gates left right. (f : Derivation) × (e ≡ parl f) × LoosensWith marks given left d f told)
  LoosensWith marks given b (parr d) e told =
      OnParallel b (λ gates left right. (f : Derivation) × (e ≡ parr f) × LoosensWith marks given right d f told)
  LoosensWith marks given b (both d c) e told =
      OnParallel b (λ gates left right.
      (f g : Derivation) × (by_left by_right : List Bool) × (e ≡ both f g) × LoosensWith marks given left d f by_left ×
      LoosensWith marks given right c g by_right × (told ≡ either_told by_left by_right))
  LoosensWith marks given b (hiding d) e told =
      OnHide b (λ gates body.
      (f : Derivation) × (own : List Bool) × (e ≡ hiding f) × LoosensWith marks own body d f own × (told ≡ []))
  LoosensWith marks given b (pass d) e told =
      OnHide b (λ gates body. (f : Derivation) × (e ≡ pass f) × LoosensWith marks given body d f told)
  LoosensWith marks given b (enstep d) e told =
      OnEnable b (λ left xs right. (f : Derivation) × (e ≡ enstep f) × LoosensWith marks given left d f told)
  LoosensWith marks given b (enend d) e told =
      OnEnable b (λ left xs right.
      (f : Derivation) × (own : List Bool) × (e ≡ enend f) × LoosensWith marks own left d f own × (told ≡ []))
  LoosensWith marks given b (disstep d) e told =
      OnDisable b (λ left right. (f : Derivation) × (e ≡ disstep f) × LoosensWith marks given left d f told)
  LoosensWith marks given b (disend d) e told =
      OnDisable b (λ left right. (f : Derivation) × (e ≡ disend f) × LoosensWith marks given left d f told)
  LoosensWith marks given b (distake d) e told =
      OnDisable b (λ left right. (f : Derivation) × (e ≡ distake f) × LoosensWith marks given right d f told)
  LoosensWith marks given b (calling d) e told =
      OnCall b (λ p actual terms.
      (formal : List ℕ) × (xs : List Variable) × (body : Behaviour) × (f : Derivation) × IsDefinition program p formal xs body ×
      (e ≡ calling f) × LoosensWith (marks_passed marks no_marks xs terms) given (relabel (pairs_of formal actual) body) d f told)
  LoosensWith marks given b (rel d) e told =
      OnRelabel b (λ pairs body. (f : Derivation) × (e ≡ rel f) × LoosensWith marks given body d f told)

  -- The tree d of the closed behaviour b loosened is e, under an offer if there is one: first each value of a choice that lies outside its
  -- window becomes the mark; then each value at a `?` or an `any` that neither lies in its window nor is given. A value is given where an
  -- expression of a participant without a mark, or a `!` of the offer, has it at its place of the action.
  abbrev pub IsLoosened : Behaviour → Option Offer → Derivation → Derivation → Type 0
  IsLoosened b o d e = (told : List Bool) × LoosensWith no_marks (given_by told o) b d e told
