-- What a search looks through: the trees of a composite that a query may ask for, by their numbers. (This profile.)
use Rattle.std.specs.Prelude.{ℕ, ◌≡◌, ◌+◌, ◌≤◌, ◌<◌, not, length, List, [], ◌∷◌, drop, filter, Option, Some, None, Bool, if◌then◌else◌}
use Rattle.std.specs.Prelude.{option_map}
use Rattle.spec_core.specs.Theories.{Theory}
use Rattle.rule_model.specs.declared.offer.Field.{Field}
use Rattle.rule_model.specs.declared.offer.Field.TheVariants.{Give, Take}
use Rattle.rule_model.specs.declared.offer.Offer.{Offer}
use Rattle.rule_model.specs.declared.rules.Slot.{Slot}
use Rattle.rule_model.specs.Actions.{at_gate}
use Rattle.rule_model.specs.Derivations.{Derivation, derivation_of}
use Rattle.symbolic_rules.specs.Windows.{Windows}
use Rattle.symbolic_rules.specs.Trees.{has_mark}
use Rattle.decision_trees.specs.Rules.{Query, meeting, any, unseen, beyond, any_beyond, beyond_or_unseen}
use Rattle.symbolic_composites.specs.Kinds.{same_kind}
use Rattle.symbolic_composites.specs.OpenFields.{OpenField, all_choices, any_marked, given_in}
use Rattle.symbolic_composites.specs.OpenFields as open_fields
use Rattle.symbolic_composites.specs.Composites.{from_option}
use Rattle.symbolic_plans.specs.OpenPlans.{OpenPlan}
use Rattle.candidate_laws.specs.Asked.{TreeQuery}
use Rattle.candidate_laws.specs.Waiting.{is_unseen, may_meet, all_may_meet}
use Rattle.symbolic_trees.specs.Numbers.{trees_at_once}
use Rattle.candidate_search.specs.declared.searches.TreeSearch.{TreeSearch}
use Rattle.candidate_search.specs.declared.searches.TreeSearch.TheVariants.{Meeting, Any, Unseen, Beyond, AnyBeyond, BeyondOrUnseen}
use Rattle.candidate_search.specs.declared.searches.AskedTree.{AskedTree}

-- the query for the offer, whoever made it
abbrev pub for_offer : TreeQuery → Query Offer
for_offer (meeting p) = meeting p.offer
for_offer any = any
for_offer unseen = unseen
for_offer (beyond p) = beyond p.offer
for_offer any_beyond = any_beyond
for_offer (beyond_or_unseen p) = beyond_or_unseen p.offer

-- the query that a value of the program stands for
abbrev pub query_of : TreeSearch → Query Offer
query_of (Meeting offer) = meeting offer.now
query_of Any = any
query_of Unseen = unseen
query_of (Beyond offer) = beyond offer.now
query_of AnyBeyond = any_beyond
query_of (BeyondOrUnseen offer) = beyond_or_unseen offer.now

-- whether it asks for trees with marks, or for those without
abbrev pub is_wanted : Query Offer → Derivation → Bool
is_wanted (meeting offer) d = not (has_mark d)
is_wanted any d = not (has_mark d)
is_wanted unseen d = not (has_mark d)
is_wanted (beyond offer) d = has_mark d
is_wanted any_beyond d = has_mark d
is_wanted (beyond_or_unseen offer) d = has_mark d

-- of the trees from a number on those that are wanted
abbrev pub wanted_from : (Derivation → Bool) → List Derivation → ℕ → List Derivation
wanted_from wanted trees n = filter wanted (drop n trees)

-- What comes of a search from a number on: from there on no tree is wanted; or this one is the first, and all others come after it.
abbrev pub IsNext : (Derivation → Bool) → List Derivation → ℕ → Option AskedTree → Type 0
IsNext wanted trees from None = wanted_from wanted trees from ≡ []
IsNext wanted trees from (Some asked) =
    (wanted_from wanted trees from ≡ derivation_of asked.tree ∷ wanted_from wanted trees (asked.number + 1)) ×
    (from ≤ asked.number) × (asked.number < length trees)

module _ (theory : Theory) where
  -- of the slots that each field may have, those with which it may meet the offer's field; none where there isn't a field for each
  abbrev pub each_meeting : List OpenField → List (List Slot) → List Field → Option (List (List Slot))
  each_meeting [] choices [] = Some choices
  each_meeting (f ∷ fs) (slots ∷ choices) (field ∷ fields) =
      option_map (λ others. filter (λ slot. may_meet theory f (slot ∷ []) field) slots ∷ others) (each_meeting fs choices fields)
  each_meeting _ choices fields = None

  -- the same; where an expression gives a mark, all slots are there at once
  abbrev pub all_meeting : List OpenField → List (List Slot) → List Field → Option (List (List Slot))
  all_meeting fs choices fields =
      if any_marked fs
      then (if all_may_meet theory fs choices fields then Some choices else None)
      else each_meeting fs choices fields

-- what a field of an offer gives
abbrev pub given_by : Field → Option (List ℕ)
given_by (Give v) = Some v
given_by (Take sort) = None

module _ (theory : Theory) (w : Windows) where
  -- of the slots that a field may have with what a field of an offer gives, those with which it may meet that
  abbrev pub meeting_slots : OpenField → Field → List Slot
  meeting_slots f field = filter (λ slot. may_meet theory f (slot ∷ []) field) (open_fields.choices theory w (given_by field) f)

  -- the slots that the fields of a composite may have so that its action may meet the offer, if there are any
  abbrev pub slots_taking : Offer → OpenPlan → Option (List (List Slot))
  slots_taking offer p =
      if same_kind p.kind (at_gate offer.gate.0)
      then all_meeting theory p.fields (all_choices theory w (given_in offer.fields) p.fields) offer.fields
      else None

  -- the slots that the fields of a composite may have so that a query may ask for its trees, if there are any
  abbrev pub slots_asked : Query Offer → OpenPlan → Option (List (List Slot))
  slots_asked (meeting offer) p = slots_taking offer p
  slots_asked any p = Some (all_choices theory w [] p.fields)
  slots_asked unseen p = if is_unseen p.kind then Some (all_choices theory w [] p.fields) else None
  slots_asked (beyond offer) p = slots_taking offer p
  slots_asked any_beyond p = Some (all_choices theory w [] p.fields)
  slots_asked (beyond_or_unseen offer) p =
      if is_unseen p.kind then Some (all_choices theory w (given_in offer.fields) p.fields) else slots_taking offer p

  -- the trees that a search looks through, each of which has its place as number
  abbrev pub trees_searched : Query Offer → OpenPlan → List Derivation
  trees_searched q p = from_option (slots_asked q p) (λ choices. trees_at_once theory w p.fields p.plan choices)

  -- of the trees with this number and higher ones those that the query may ask for, in order
  abbrev pub asked_from : Query Offer → OpenPlan → ℕ → List Derivation
  asked_from q p n = wanted_from (is_wanted q) (trees_searched q p) n
