-- Whether fields agree, lie in their windows, and meet those of an offer.
use Rattle.std.proofs.Common.{◌≡◌, inl, inr, List, [], ◌∷◌, refl, ap, ◌∙◌, Option, Some, None}
use Rattle.spec_core.specs.Lists.{Each}
use Rattle.spec_core.specs.Theories.{Theory}
use Rattle.spec_core.specs.Code.{Variable}
use Rattle.rule_model.specs.declared.offer.Field.{Field}
use Rattle.rule_model.specs.declared.offer.Field.TheVariants.{Give, Take}
use Rattle.rule_model.specs.declared.offer.Offer.{Offer}
use Rattle.rule_model.specs.Actions.{Kind, at_gate}
use Rattle.symbolic_rules.specs.Windows.{Windows, sort_of_value}
use Rattle.symbolic_rules.specs.MarkedFields.{MarkedField, told, chosen, given, free, sort_of_field, Agree, AllAgree, HaveSortsOf, IsWithin}
use Rattle.symbolic_rules.specs.Trees.{FieldMayMeet, FieldsMayMeet, MayMeet}
use Rattle.symbolic_rules.proofs.Windows.{is_one_or_not}
use Rattle.symbolic_composites.proofs.One.{IsKnown, One, known_both}
use Rattle.symbolic_composites.proofs.Parts.{same_value_known, same_number_known, same_kind_known}

-- a field, where a condition holds
one_if : (P : Type 0) (f : MarkedField) → IsKnown P → One (λ h. P × (h ≡ f))
one_if P f (inl p) = inl (f, (p, refl), λ h k. k.1)
one_if P f (inr out) = inr (λ h k. out k.0)

module _ (theory : Theory) where
  one_agree : (f g : MarkedField) → One (Agree theory f g)
  one_agree (told v) (told u) = one_if (v ≡ u) (told v) (same_value_known v u)
  one_agree (told v) (chosen u) = one_if (v ≡ u) (told v) (same_value_known v u)
  one_agree (told v) (given sort) = one_if (sort_of_value theory v ≡ sort) (told v) (same_number_known (sort_of_value theory v) sort)
  one_agree (told v) (free sort) = inr (λ h k. k)
  one_agree (chosen v) (told u) = one_if (v ≡ u) (told v) (same_value_known v u)
  one_agree (chosen v) (chosen u) = one_if (v ≡ u) (chosen v) (same_value_known v u)
  one_agree (chosen v) (given sort) = one_if (sort_of_value theory v ≡ sort) (chosen v) (same_number_known (sort_of_value theory v) sort)
  one_agree (chosen v) (free sort) = inr (λ h k. k)
  one_agree (given sort) (told v) = one_if (sort_of_value theory v ≡ sort) (told v) (same_number_known (sort_of_value theory v) sort)
  one_agree (given sort) (chosen v) = one_if (sort_of_value theory v ≡ sort) (chosen v) (same_number_known (sort_of_value theory v) sort)
  one_agree (given sort) (given other) = one_if (sort ≡ other) (given sort) (same_number_known sort other)
  one_agree (given sort) (free other) = one_if (sort ≡ other) (given sort) (same_number_known sort other)
  one_agree (free sort) (told v) = inr (λ h k. k)
  one_agree (free sort) (chosen v) = inr (λ h k. k)
  one_agree (free sort) (given other) = one_if (sort ≡ other) (given sort) (same_number_known sort other)
  one_agree (free sort) (free other) = one_if (sort ≡ other) (free sort) (same_number_known sort other)

  pub all_agree : (fs gs : List MarkedField) → One (AllAgree theory fs gs)
  all_agree [] [] = inl ([], refl, λ hs e. e)
  all_agree (f ∷ fs) (g ∷ gs) = by_parts (one_agree f g) (all_agree fs gs)
    where
      by_parts : One (Agree theory f g) → One (AllAgree theory fs gs) → One (AllAgree theory (f ∷ fs) (g ∷ gs))
      by_parts (inr out) rest = inr none
        where
          none : (hs : List MarkedField) → AllAgree theory (f ∷ fs) (g ∷ gs) hs → ⊥
          none [] k = k
          none (h ∷ hs) k = out h k.0
      by_parts (inl i) (inr out) = inr none
        where
          none : (hs : List MarkedField) → AllAgree theory (f ∷ fs) (g ∷ gs) hs → ⊥
          none [] k = k
          none (h ∷ hs) k = out hs k.1
      by_parts (inl i) (inl j) = inl (i.0 ∷ j.0, (i.1, j.1), only)
        where
          only : (hs : List MarkedField) → AllAgree theory (f ∷ fs) (g ∷ gs) hs → hs ≡ i.0 ∷ j.0
          only [] k = absurd k
          only (h ∷ hs) k = ap (λ x. x ∷ hs) (i.2 h k.0) ∙ ap (λ l. i.0 ∷ l) (j.2 hs k.1)
  all_agree [] (g ∷ gs) = inr (λ hs k. k)
  all_agree (f ∷ fs) [] = inr (λ hs k. k)

  pub sorts_known : (xs : List Variable) (fs : List MarkedField) → IsKnown (HaveSortsOf theory xs fs)
  sorts_known [] [] = inl tt
  sorts_known (x ∷ xs) (f ∷ fs) =
      known_both (sort_of_field theory f ≡ x.sort) (HaveSortsOf theory xs fs) (same_number_known (sort_of_field theory f) x.sort)
      (sorts_known xs fs)
  sorts_known [] (f ∷ fs) = inr (λ h. h)
  sorts_known (x ∷ xs) [] = inr (λ h. h)

module _ (theory : Theory) (w : Windows) where
  pub within_known : (f : MarkedField) → IsKnown (IsWithin theory w f)
  within_known (told v) = inl tt
  within_known (chosen v) = is_one_or_not (w.values (sort_of_value theory v)) v
  within_known (given sort) = inl tt
  within_known (free sort) = inl tt

  pub all_within_known : (fs : List MarkedField) → IsKnown (Each (IsWithin theory w) fs)
  all_within_known [] = inl tt
  all_within_known (f ∷ fs) = known_both (IsWithin theory w f) (Each (IsWithin theory w) fs) (within_known f) (all_within_known fs)

  field_meets_known : (f : MarkedField) (field : Field) → IsKnown (FieldMayMeet theory w f field)
  field_meets_known (told v) (Give u) = same_value_known v u
  field_meets_known (chosen v) (Give u) = same_value_known v u
  field_meets_known (given sort) (Give u) = same_number_known (sort_of_value theory u) sort
  field_meets_known (free sort) (Give u) = inr (λ h. h)
  field_meets_known (told v) (Take sort) =
      known_both (sort_of_value theory v ≡ sort.0) (IsWithin theory w (told v)) (same_number_known (sort_of_value theory v) sort.0) (inl tt)
  field_meets_known (chosen v) (Take sort) =
      known_both (sort_of_value theory v ≡ sort.0) (IsWithin theory w (chosen v)) (same_number_known (sort_of_value theory v) sort.0)
      (within_known (chosen v))
  field_meets_known (given s) (Take sort) = known_both (s ≡ sort.0) (IsWithin theory w (given s)) (same_number_known s sort.0) (inl tt)
  field_meets_known (free s) (Take sort) = known_both (s ≡ sort.0) (IsWithin theory w (free s)) (same_number_known s sort.0) (inl tt)

  fields_meet_known : (fs : List MarkedField) (fields : List Field) → IsKnown (FieldsMayMeet theory w fs fields)
  fields_meet_known [] [] = inl tt
  fields_meet_known (f ∷ fs) (field ∷ fields) =
      known_both (FieldMayMeet theory w f field) (FieldsMayMeet theory w fs fields) (field_meets_known f field)
      (fields_meet_known fs fields)
  fields_meet_known [] (field ∷ fields) = inr (λ h. h)
  fields_meet_known (f ∷ fs) [] = inr (λ h. h)

  pub meets_known : (k : Kind) (fs : List MarkedField) (o : Option Offer) → IsKnown (MayMeet theory w k fs o)
  meets_known k fs None = all_within_known fs
  meets_known k fs (Some offer) =
      known_both (k ≡ at_gate offer.gate.0) (FieldsMayMeet theory w fs offer.fields) (same_kind_known k (at_gate offer.gate.0))
      (fields_meet_known fs offer.fields)
