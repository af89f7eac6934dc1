-- What a walk has ahead where it comes to a composite, or to a gap.
use Rattle.std.proofs.Common.{ℕ, ◌≡◌, ◌++◌, ◌||◌, ◌∙◌, List, [], ◌∷◌, map, filter, drop, flat_map, refl, sym, ap, Option, Some, None}
use Rattle.std.proofs.Common.{Bool, true, false, if◌then◌else◌}
use Rattle.std.proofs.lemmas.Bool.{or_parts}
use Rattle.spec_core.specs.Theories.{Theory}
use Rattle.rule_model.specs.declared.offer.Offer.{Offer}
use Rattle.rule_model.specs.declared.rules.Slot.{Slot}
use Rattle.rule_model.specs.Actions.{inside, ends, at_gate}
use Rattle.symbolic_rules.specs.Windows.{Windows}
use Rattle.decision_trees.specs.Gaps.{element, gap}
use Rattle.decision_trees.specs.Rules.{Query, meeting, any, unseen, beyond, any_beyond, beyond_or_unseen}
use Rattle.symbolic_composites.specs.Kinds.{same_kind}
use Rattle.symbolic_composites.specs.OpenFields.{all_choices, given_in}
use Rattle.symbolic_composites.specs.Composites.{from_option}
use Rattle.candidate_composites.proofs.Tests.{if_false}
use Rattle.symbolic_plans.specs.OpenPlans.{OpenPlan}
use Rattle.candidate_laws.specs.Sought.{Step, is_sought, seeks_some, sought_at}
use Rattle.candidate_laws.specs.Waiting.{is_unseen}
use Rattle.candidate_laws.proofs.Asking.{seen_is}
use Rattle.symbolic_trees.specs.Numbers.{trees_at_once}
use Rattle.candidate_search.specs.Searches.{is_wanted, all_meeting, slots_taking, slots_asked, asked_from}
use Rattle.candidate_composites.specs.Known.{PlacedPlan, made, awaited, plans_sought}
use Rattle.candidates.specs.Listed.{kinds_sought, trees_in, trees_sought}

module _ (theory : Theory) (w : Windows) where
  not_taking : (offer : Offer) (p : OpenPlan) → same_kind p.kind (at_gate offer.gate.0) ≡ false → slots_taking theory w offer p ≡ None
  not_taking offer p e =
      if_false (same_kind p.kind (at_gate offer.gate.0))
      (all_meeting theory p.fields (all_choices theory w (given_in offer.fields) p.fields) offer.fields) None e

  -- a query asks for no tree of a composite whose action isn't sought
  not_sought : (q : Query Offer) (p : OpenPlan) → is_sought (kinds_sought q) p.kind ≡ false → slots_asked theory w q p ≡ None
  not_sought (meeting offer) p e = not_taking offer p (or_parts (same_kind p.kind (at_gate offer.gate.0)) false e).0
  not_sought any p e = let n : true ≡ false = e in absurd cc
  not_sought unseen p e = if_false (is_unseen p.kind) (Some (all_choices theory w [] p.fields)) None (seen_is p.kind e)
  not_sought (beyond offer) p e = not_taking offer p (or_parts (same_kind p.kind (at_gate offer.gate.0)) false e).0
  not_sought any_beyond p e = let n : true ≡ false = e in absurd cc
  not_sought (beyond_or_unseen offer) p e =
      let n = or_parts (same_kind p.kind (at_gate offer.gate.0)) (same_kind p.kind inside || (same_kind p.kind ends || false)) e in
      if_false (is_unseen p.kind) (Some (all_choices theory w (given_in offer.fields) p.fields)) (slots_taking theory w offer p)
      (seen_is p.kind n.1)
      ∙ not_taking offer p n.0

  module _ (q : Query Offer) (ps : List PlacedPlan) where
    pub at_composite : (p : OpenPlan) → trees_sought theory w q (made p ∷ ps) ≡ map element (asked_from theory w q p 0) ++ trees_sought theory w q ps
    at_composite p = by_test (is_sought (kinds_sought q) p.kind) refl
      where
        by_test : (b : Bool) → is_sought (kinds_sought q) p.kind ≡ b →
            trees_in theory w q ((if b then element p ∷ [] else []) ++ flat_map (plans_sought (kinds_sought q)) ps) ≡
            map element (asked_from theory w q p 0) ++ trees_sought theory w q ps
        by_test true e = refl
        by_test false e =
            sym (ap (λ (o : Option (List (List Slot))). map element
            (filter (is_wanted q) (drop 0 (from_option o (λ choices. trees_at_once theory w p.fields p.plan choices)))) ++
            trees_sought theory w q ps) (not_sought q p e))

    pub at_gap : (g : ℕ) (steps : List Step) → true ≡ seeks_some (sought_at steps (kinds_sought q)) →
        trees_sought theory w q (awaited g steps ∷ ps) ≡ gap g ∷ trees_sought theory w q ps
    at_gap g steps e =
        ap (λ b. trees_in theory w q ((if b then gap g ∷ [] else []) ++ flat_map (plans_sought (kinds_sought q)) ps)) (sym e)

    pub past_gap : (g : ℕ) (steps : List Step) → false ≡ seeks_some (sought_at steps (kinds_sought q)) →
        trees_sought theory w q (awaited g steps ∷ ps) ≡ trees_sought theory w q ps
    past_gap g steps e =
        ap (λ b. trees_in theory w q ((if b then gap g ∷ [] else []) ++ flat_map (plans_sought (kinds_sought q)) ps)) (sym e)
