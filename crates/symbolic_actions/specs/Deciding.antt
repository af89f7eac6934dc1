-- Tests of fields where values may be marks: functions for the relations of `MarkedFields` and `MayMeet`. (This profile.)
use Rattle.std.specs.Prelude.{◌==◌, ◌&&◌, List, [], ◌∷◌, Option, Some, None, Bool, true, false, if◌then◌else◌, option_map, option_and_then}
use Rattle.std.specs.Str.{bytes_eq}
use Rattle.spec_core.specs.Theories.{Theory}
use Rattle.spec_core.specs.Code.{Variable}
use Rattle.rule_model.specs.declared.offer.Field.{Field}
use Rattle.rule_model.specs.declared.offer.Field.TheVariants.{Give, Take}
use Rattle.rule_model.specs.declared.offer.Offer.{Offer}
use Rattle.rule_model.specs.Actions.{Kind, at_gate}
use Rattle.symbolic_rules.specs.Windows.{Windows, sort_of_value}
use Rattle.symbolic_rules.specs.MarkedFields.{MarkedField, told, chosen, given, free, sort_of_field}
use Rattle.symbolic_composites.specs.Kinds.{same_kind}
use Rattle.symbolic_composites.specs.OpenFields.{is_listed}

-- the field, where the test is passed
abbrev pub field_where : Bool → MarkedField → Option MarkedField
field_where passed f = if passed then Some f else None

module _ (theory : Theory) where
  -- two fields at one place of an action, together (`Agree`); none where they don't agree
  abbrev pub agreed : MarkedField → MarkedField → Option MarkedField
  agreed (told v) (told u) = field_where (bytes_eq v u) (told v)
  agreed (told v) (chosen u) = field_where (bytes_eq v u) (told v)
  agreed (told v) (given sort) = field_where (sort_of_value theory v == sort) (told v)
  agreed (told v) (free sort) = None
  agreed (chosen v) (told u) = field_where (bytes_eq v u) (told v)
  agreed (chosen v) (chosen u) = field_where (bytes_eq v u) (chosen v)
  agreed (chosen v) (given sort) = field_where (sort_of_value theory v == sort) (chosen v)
  agreed (chosen v) (free sort) = None
  agreed (given sort) (told v) = field_where (sort_of_value theory v == sort) (told v)
  agreed (given sort) (chosen v) = field_where (sort_of_value theory v == sort) (chosen v)
  agreed (given sort) (given other) = field_where (sort == other) (given sort)
  agreed (given sort) (free other) = field_where (sort == other) (given sort)
  agreed (free sort) (told v) = None
  agreed (free sort) (chosen v) = None
  agreed (free sort) (given other) = field_where (sort == other) (given sort)
  agreed (free sort) (free other) = field_where (sort == other) (free sort)

  -- the fields of two actions together, place by place (`AllAgree`)
  abbrev pub all_agreed : List MarkedField → List MarkedField → Option (List MarkedField)
  all_agreed [] [] = Some []
  all_agreed (f ∷ fs) (g ∷ gs) = option_and_then (λ h. option_map (λ hs. h ∷ hs) (all_agreed fs gs)) (agreed f g)
  all_agreed [] (g ∷ gs) = None
  all_agreed (f ∷ fs) [] = None

  -- whether the fields are of the sorts of these variables (`HaveSortsOf`)
  abbrev pub have_sorts : List Variable → List MarkedField → Bool
  have_sorts [] [] = true
  have_sorts (x ∷ xs) (f ∷ fs) = (sort_of_field theory f == x.sort) && have_sorts xs fs
  have_sorts [] (f ∷ fs) = false
  have_sorts (x ∷ xs) [] = false

module _ (theory : Theory) (w : Windows) where
  -- whether a value that is only chosen lies in the window of its sort (`IsWithin`)
  abbrev pub is_within : MarkedField → Bool
  is_within (told v) = true
  is_within (chosen v) = is_listed v (w.values (sort_of_value theory v))
  is_within (given sort) = true
  is_within (free sort) = true

  abbrev pub all_within : List MarkedField → Bool
  all_within [] = true
  all_within (f ∷ fs) = is_within f && all_within fs

  -- whether a field may meet a field of an offer (`FieldMayMeet`)
  abbrev pub field_may_meet : MarkedField → Field → Bool
  field_may_meet (told v) (Give u) = bytes_eq v u
  field_may_meet (chosen v) (Give u) = bytes_eq v u
  field_may_meet (given sort) (Give u) = sort_of_value theory u == sort
  field_may_meet (free sort) (Give u) = false
  field_may_meet (told v) (Take sort) = sort_of_value theory v == sort.0
  field_may_meet (chosen v) (Take sort) = (sort_of_value theory v == sort.0) && is_within (chosen v)
  field_may_meet (given other) (Take sort) = other == sort.0
  field_may_meet (free other) (Take sort) = other == sort.0

  abbrev pub fields_may_meet : List MarkedField → List Field → Bool
  fields_may_meet [] [] = true
  fields_may_meet (f ∷ fs) (field ∷ fields) = field_may_meet f field && fields_may_meet fs fields
  fields_may_meet [] (field ∷ fields) = false
  fields_may_meet (f ∷ fs) [] = false

  -- whether an action of this kind with these fields may meet the offer, if there is one (`MayMeet`)
  abbrev pub may_meet : Kind → List MarkedField → Option Offer → Bool
  may_meet k fs None = all_within fs
  may_meet k fs (Some offer) = same_kind k (at_gate offer.gate.0) && fields_may_meet fs offer.fields
