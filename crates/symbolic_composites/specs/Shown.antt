-- What the trees of a composite show. (This profile.)
use Rattle.std.specs.Prelude.{ℕ, ◌≡◌, List, [], ◌∷◌, true}
use Rattle.spec_core.specs.Lists.{IsOneOf}
use Rattle.spec_core.specs.Theories.{Theory}
use Rattle.spec_core.specs.Code.{Program}
use Rattle.rule_model.specs.declared.rules.Slot.{Slot}
use Rattle.rule_model.specs.declared.rules.Slot.TheVariants.{Of, Mark}
use Rattle.rule_model.specs.Actions.{Kind}
use Rattle.rule_model.specs.Behaviours.{Behaviour}
use Rattle.rule_model.specs.Derivations.{Derivation}
use Rattle.symbolic_rules.specs.Windows.{Windows, sort_of_value}
use Rattle.symbolic_rules.specs.MarkedTerms.{MarkedAssignment}
use Rattle.symbolic_rules.specs.MarkedFields.{MarkedField, told, chosen, given, free}
use Rattle.symbolic_rules.specs.MayDerive.{MayDeriveWith}
use Rattle.symbolic_composites.specs.Evaluations.{Evaluation, IsExact}
use Rattle.symbolic_composites.specs.OpenFields.{OpenField, fixed, blank}
use Rattle.symbolic_composites.specs.Composites.{Composite, composites}

module _ (theory : Theory) where
  -- A field of a tree in the place of an open field, which is filled with these slots: the value that is told; a value of the sort that is
  -- one of the slots; the mark that an expression gives; the mark, where it is one of the slots.
  abbrev pub IsAdmitted : OpenField → List Slot → MarkedField → Type 0
  IsAdmitted (fixed m v) slots (told u) = v ≡ u
  IsAdmitted (blank m sort) slots (chosen v) = (sort_of_value theory v ≡ sort) × IsOneOf (Of v) slots
  IsAdmitted (blank m sort) slots (given other) = (m ≡ true) × (other ≡ sort)
  IsAdmitted (blank m sort) slots (free other) = (other ≡ sort) × IsOneOf Mark slots
  IsAdmitted _ slots f = ⊥

  abbrev pub AreAdmitted : List OpenField → List (List Slot) → List MarkedField → Type 0
  AreAdmitted [] choices [] = Unit {0}
  AreAdmitted (c ∷ cs) (slots ∷ choices) (f ∷ fs) = IsAdmitted c slots f × AreAdmitted cs choices fs
  AreAdmitted _ choices fs = ⊥

-- What a behaviour may do by a tree of one of its composites has the composite's kind, and fields that its open fields and the slots admit.
abbrev pub ShownIsAdmitted : Type 0
ShownIsAdmitted =
    (program : Program) (e : Evaluation) (w : Windows) →
    IsExact program e →
    (n : ℕ) (m : MarkedAssignment) (b : Behaviour) (c : Composite) →
    IsOneOf c (composites program.theory e w n m b) →
    (choices : List (List Slot)) (d : Derivation) →
    IsOneOf d (c.trees choices) →
    (k : Kind) (fs : List MarkedField) →
    MayDeriveWith program w m b d k fs →
    (c.kind ≡ k) × AreAdmitted program.theory c.fields choices fs
