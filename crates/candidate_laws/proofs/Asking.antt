-- What a query asks for, it may ask for.
use Rattle.std.proofs.Common.{ℕ, ◌≡◌, ◌==◌, ◌⊎◌, inl, inr, ◌&&◌, ◌||◌, not, List, [], ◌∷◌, refl, sym, ap, ◌∙◌, Some, None, Bool}
use Rattle.std.proofs.Common.{true, false, length, filter}
use Rattle.std.specs.Str.{bytes_eq}
use Rattle.std.proofs.lemmas.Bool.{and_right, and_from, or_left, or_parts, or_from, or_right}
use Rattle.spec_core.specs.Lists.{IsOneOf}
use Rattle.spec_core.specs.Theories.{Theory}
use Rattle.spec_core.specs.Code.{Program}
use Rattle.spec_core.proofs.Lists.{filter_none}
use Rattle.rule_model.specs.declared.offer.Field.{Field}
use Rattle.rule_model.specs.declared.offer.Field.TheVariants.{Give, Take}
use Rattle.rule_model.specs.declared.offer.Offer.{Offer}
use Rattle.rule_model.specs.declared.rules.Slot.{Slot}
use Rattle.rule_model.specs.declared.rules.Slot.TheVariants.{Of, Mark, Blank}
use Rattle.rule_model.specs.Actions.{Kind, inside, ends, at_gate}
use Rattle.rule_model.specs.Behaviours.{Behaviour}
use Rattle.rule_model.specs.Derivations.{Derivation}
use Rattle.symbolic_rules.specs.Windows.{Windows, sort_of_value}
use Rattle.symbolic_rules.specs.MarkedTerms.{unmarked}
use Rattle.symbolic_rules.specs.MarkedFields.{MarkedField, told, chosen, given, free}
use Rattle.symbolic_rules.specs.Trees.{has_mark, FieldMayMeet, FieldsMayMeet, IsSeen, IsBeyond}
use Rattle.decision_trees.specs.Rules.{meeting, any, unseen, beyond, any_beyond, beyond_or_unseen}
use Rattle.symbolic_composites.specs.Evaluations.{Evaluation, IsExact}
use Rattle.symbolic_composites.specs.Kinds.{same_kind}
use Rattle.symbolic_composites.specs.OpenFields.{OpenField, fixed, blank, all_choices, choices_at_once}
use Rattle.symbolic_composites.specs.Composites.{Composite, composites}
use Rattle.symbolic_composites.specs.TreeLists.{offered}
use Rattle.symbolic_composites.specs.Shown.{IsAdmitted, AreAdmitted}
use Rattle.symbolic_composites.proofs.Shown.{shown_is_admitted}
use Rattle.symbolic_composites.proofs.Tests.{same_value, same_number, same_kind_so}
use Rattle.candidate_laws.specs.Asked.{TreeQuery, IsAsked, IsUnseenKind, offer_in}
use Rattle.candidate_laws.specs.Sought.{is_sought}
use Rattle.candidate_laws.specs.Waiting.{sought_by, is_slot, is_unseen, may_meet, all_may_meet, may_take, may_be_asked, trees_asked}
use Rattle.candidate_laws.proofs.Lists.{flat_none}

slot_is : (u v : List ℕ) (slots : List Slot) → v ≡ u → IsOneOf (Of v) slots → is_slot u slots ≡ true
slot_is u v [] e h = absurd h
slot_is u v (Of x ∷ slots) e (inl q) =
    let same : x ≡ u = cc (q, e) in
    or_left (bytes_eq x u) (is_slot u slots) (same_value x u same)
slot_is u v (Of x ∷ slots) e (inr i) = or_right (bytes_eq x u) (is_slot u slots) (slot_is u v slots e i)
slot_is u v (Mark ∷ slots) e (inl q) = absurd (cc)
slot_is u v (Mark ∷ slots) e (inr i) = slot_is u v slots e i
slot_is u v (Blank ∷ slots) e (inl q) = absurd (cc)
slot_is u v (Blank ∷ slots) e (inr i) = slot_is u v slots e i

unseen_is : (k : Kind) → IsUnseenKind k → is_unseen k ≡ true
unseen_is inside h = refl
unseen_is ends h = refl
unseen_is (at_gate g) h = absurd h

module _ (theory : Theory) (w : Windows) where
  one_may_meet : (c : OpenField) (slots : List Slot) (f : MarkedField) (field : Field) → IsAdmitted theory c slots f →
      FieldMayMeet theory w f field → may_meet theory c slots field ≡ true
  one_may_meet (fixed m v) slots (told u) (Give x) p h = same_value v x (p ∙ h)
  one_may_meet (fixed m v) slots (told u) (Take sort) p h =
      same_number (sort_of_value theory v) sort.0 (ap (sort_of_value theory) p ∙ h.0)
  one_may_meet (blank m s) slots (chosen v) (Give u) p h =
      or_right (m && sort_of_value theory u == s) (is_slot u slots) (slot_is u v slots h p.1)
  one_may_meet (blank m s) slots (given other) (Give u) p h =
      or_left (m && sort_of_value theory u == s) (is_slot u slots)
      (and_from m (sort_of_value theory u == s) p.0 (same_number (sort_of_value theory u) s (h ∙ p.1)))
  one_may_meet (blank m s) slots (free other) (Give u) p h = absurd h
  one_may_meet (blank m s) slots (chosen v) (Take sort) p h = same_number s sort.0 (sym p.0 ∙ h.0)
  one_may_meet (blank m s) slots (given other) (Take sort) p h = same_number s sort.0 (sym p.1 ∙ h.0)
  one_may_meet (blank m s) slots (free other) (Take sort) p h = same_number s sort.0 (sym p.0 ∙ h.0)
  one_may_meet (fixed m v) slots (chosen u) field p h = absurd p
  one_may_meet (fixed m v) slots (given u) field p h = absurd p
  one_may_meet (fixed m v) slots (free u) field p h = absurd p
  one_may_meet (blank m s) slots (told u) field p h = absurd p

  fields_may_meet : (cs : List OpenField) (choices : List (List Slot)) (fs : List MarkedField) (fields : List Field) →
      AreAdmitted theory cs choices fs → FieldsMayMeet theory w fs fields → all_may_meet theory cs choices fields ≡ true
  fields_may_meet [] choices [] [] p h = refl
  fields_may_meet (c ∷ cs) (slots ∷ choices) (f ∷ fs) (field ∷ fields) p h =
      and_from (may_meet theory c slots field) (all_may_meet theory cs choices fields) (one_may_meet c slots f field p.0 h.0)
      (fields_may_meet cs choices fs fields p.1 h.1)
  fields_may_meet [] choices [] (field ∷ fields) p h = absurd h
  fields_may_meet [] choices (f ∷ fs) fields p h = absurd p
  fields_may_meet (c ∷ cs) [] fs fields p h = absurd p
  fields_may_meet (c ∷ cs) (slots ∷ choices) [] fields p h = absurd p
  fields_may_meet (c ∷ cs) (slots ∷ choices) (f ∷ fs) [] p h = absurd h

module _ (program : Program) (e : Evaluation) (exact : IsExact program e) (w : Windows) (b : Behaviour) (c : Composite)
    (one : IsOneOf c (composites program.theory e w (length program.code) unmarked b)) (choices : List (List Slot)) (d : Derivation)
    (tree : IsOneOf d (c.trees choices)) where
  shown : (o : _) (k : Kind) (h : IsSeen program w b o d k) → (c.kind ≡ k) × AreAdmitted program.theory c.fields choices h.fields
  shown o k h = shown_is_admitted program e w exact (length program.code) unmarked b c one choices d tree k h.fields h.derives

  may_take_it : (offer : Offer) (k : Kind) → IsSeen program w b (Some offer) d k → may_take program.theory offer c choices ≡ true
  may_take_it offer k h =
      let s = shown (Some offer) k h in
      and_from (same_kind c.kind (at_gate offer.gate.0)) (all_may_meet program.theory c.fields choices offer.fields)
      (same_kind_so c.kind (at_gate offer.gate.0) (s.0 ∙ h.meets.0))
      (fields_may_meet program.theory w c.fields choices h.fields offer.fields s.1 h.meets.1)

  is_unseen_it : (k : Kind) → IsSeen program w b None d k → IsUnseenKind k → is_unseen c.kind ≡ true
  is_unseen_it k h i = ap is_unseen (shown None k h).0 ∙ unseen_is k i

  pub asked_may_be : (q : TreeQuery) → IsAsked program w b q d → may_be_asked program.theory w q c choices d ≡ true
  asked_may_be (meeting p) h =
      and_from (not (has_mark d)) (may_take program.theory p.offer c choices) (ap not h.1.1) (may_take_it p.offer h.0 h.1.0)
  asked_may_be any h = ap not h.1.1
  asked_may_be unseen h =
      and_from (not (has_mark d)) (is_unseen c.kind) (ap not h.1.1) (is_unseen_it h.0 h.1.0 h.2)
  asked_may_be (beyond p) h =
      and_from (has_mark d) (may_take program.theory p.offer c choices) h.1.1 (may_take_it p.offer h.0 h.1.0)
  asked_may_be any_beyond h = h.1.1
  asked_may_be (beyond_or_unseen p) h = by_case h
    where
      either : Bool
      either = may_take program.theory p.offer c choices || is_unseen c.kind

      by_case : ((k : Kind) × IsBeyond program w b (Some p.offer) d k) ⊎ ((k : Kind) × IsBeyond program w b None d k × IsUnseenKind k) →
          has_mark d && either ≡ true
      by_case (inl i) =
          and_from (has_mark d) either i.1.1
          (or_left (may_take program.theory p.offer c choices) (is_unseen c.kind) (may_take_it p.offer i.0 i.1.0))
      by_case (inr i) =
          and_from (has_mark d) either i.1.1
          (or_right (may_take program.theory p.offer c choices) (is_unseen c.kind) (is_unseen_it i.0 i.1.0 i.2))

pub seen_is : (k : Kind) → same_kind k inside || (same_kind k ends || false) ≡ false → is_unseen k ≡ false
seen_is inside e = let n : true ≡ false = e in absurd cc
seen_is ends e = let n : true ≡ false = e in absurd cc
seen_is (at_gate g) e = refl

-- a query asks for no tree of a composite whose action isn't sought
module _ (theory : Theory) (w : Windows) (c : Composite) where
  not_taken : (offer : Offer) (choices : List (List Slot)) → same_kind c.kind (at_gate offer.gate.0) ≡ false →
      may_take theory offer c choices ≡ false
  not_taken offer choices e = ap (λ z. z && all_may_meet theory c.fields choices offer.fields) e

  not_asked : (q : TreeQuery) (choices : List (List Slot)) (d : Derivation) → is_sought (sought_by q) c.kind ≡ false →
      may_be_asked theory w q c choices d ≡ false
  not_asked (meeting p) choices d e =
      and_right (not (has_mark d)) (may_take theory p.offer c choices)
      (not_taken p.offer choices (or_parts (same_kind c.kind (at_gate p.offer.gate.0)) false e).0)
  not_asked any choices d e = let n : true ≡ false = e in absurd cc
  not_asked unseen choices d e = and_right (not (has_mark d)) (is_unseen c.kind) (seen_is c.kind e)
  not_asked (beyond p) choices d e =
      and_right (has_mark d) (may_take theory p.offer c choices)
      (not_taken p.offer choices (or_parts (same_kind c.kind (at_gate p.offer.gate.0)) false e).0)
  not_asked any_beyond choices d e = let n : true ≡ false = e in absurd cc
  not_asked (beyond_or_unseen p) choices d e =
      let n = or_parts (same_kind c.kind (at_gate p.offer.gate.0)) (same_kind c.kind inside || (same_kind c.kind ends || false)) e in
      and_right (has_mark d) (may_take theory p.offer c choices || is_unseen c.kind)
      (or_from (may_take theory p.offer c choices) (is_unseen c.kind) (not_taken p.offer choices n.0) (seen_is c.kind n.1))

  pub none_asked : (q : TreeQuery) → is_sought (sought_by q) c.kind ≡ false → trees_asked theory w q c ≡ []
  none_asked q e =
      flat_none (λ choices. filter (may_be_asked theory w q c choices) (c.trees choices))
      (choices_at_once c.fields (all_choices theory w (offered (offer_in q)) c.fields))
      (λ choices. filter_none (may_be_asked theory w q c choices) (c.trees choices) (λ d. not_asked q choices d e))
