-- The candidates of a tree of nodes, as far as its nodes are expanded, and searches among them, as far as what nodes show is known.
-- (This profile.)
use Rattle.std.specs.Prelude.{ℕ, List, map, flat_map, Option, Bool, is_some, option_map, option_and_then}
use Rattle.spec_core.specs.Theories.{Theory}
use Rattle.rule_model.specs.declared.offer.Offer.{Offer}
use Rattle.rule_model.specs.Derivations.{Derivation}
use Rattle.symbolic_rules.specs.Windows.{Windows}
use Rattle.decision_trees.specs.Decisions.{Question}
use Rattle.decision_trees.specs.Known.{Knowledge}
use Rattle.decision_trees.specs.Lazy.{first}
use Rattle.decision_trees.specs.Rules.{Query}
use Rattle.decision_trees.specs.Gaps.{OrGap, element, in_its_place, first_known, all_known, missing_to_first, all_missing, known_to_hold}
use Rattle.symbolic_composites.specs.Composites.{Composite}
use Rattle.symbolic_plans.specs.OpenPlans.{OpenPlan}
use Rattle.symbolic_plans.specs.Laws.{composites_of}
use Rattle.candidate_laws.specs.Asked.{TreeQuery}
use Rattle.candidate_laws.specs.Sought.{Sought, sought_for}
use Rattle.candidate_laws.specs.Waiting.{Candidate, candidate, sought_by}
use Rattle.candidate_search.specs.Searches.{for_offer, asked_from}
use Rattle.node_trees.specs.Rests.{Work}
use Rattle.node_trees.specs.Shapes.{Held, Shape, node_at}
use Rattle.candidate_composites.specs.Known.{PlanOrGap, PlacedPlan, plans_sought, placed_plans, sought_plans}
use Rattle.candidate_verdicts.specs.Known.{Pieces, known_show}
use Rattle.candidate_verdicts.specs.Asked.{asked_by, known_verdict}

-- the kinds of the actions that a query may ask for
abbrev pub kinds_sought : Query Offer → Sought
kinds_sought q = sought_for (λ (offer : Offer). offer.gate.0) q

module _ (theory : Theory) (w : Windows) where
  -- the candidates of a plan for a query, in order
  abbrev pub candidates_of : TreeQuery → OpenPlan → List Candidate
  candidates_of q p = map (candidate q) (asked_from theory w (for_offer q) p 0)

  -- of plans with gaps, each gap in its place
  abbrev pub candidates_in : TreeQuery → List PlanOrGap → List (OrGap Candidate)
  candidates_in q ps = flat_map (in_its_place (λ p. map element (candidates_of q p))) ps

  -- of a tree of nodes; a gap only where what the query may ask for can come from it
  abbrev pub known_candidates : Shape → TreeQuery → List (OrGap Candidate)
  known_candidates t q = candidates_in q (sought_plans theory t (sought_by q))

  -- the composites of each node that is expanded, and the verdicts that are known
  abbrev pub items_in : Shape → ℕ → Option (List Composite)
  items_in t g = option_and_then (λ (n : Held). option_map (λ (x : Work). composites_of theory w x.plans) n.work) (node_at g t)

  abbrev pub knowledge : Pieces → Shape → Knowledge Composite Candidate
  knowledge pieces t = record { items = items_in t; verdict = known_verdict theory w pieces t }

  -- the trees of plans with gaps for which a query may ask, in order, each gap in its place
  abbrev pub trees_in : Query Offer → List PlanOrGap → List (OrGap Derivation)
  trees_in q ps = flat_map (in_its_place (λ p. map element (asked_from theory w q p 0))) ps

  -- of these plans and gaps, with the steps to the whole; a gap only where what the query may ask for can come from it
  abbrev pub trees_sought : Query Offer → List PlacedPlan → List (OrGap Derivation)
  trees_sought q ps = trees_in q (flat_map (plans_sought (kinds_sought q)) ps)

  -- the trees of the candidates, in order, with the same gaps; and whether a query asks for one, as far as it is known
  abbrev pub known_trees : Shape → TreeQuery → List (OrGap Derivation)
  known_trees t q = trees_sought (for_offer q) (placed_plans theory t)

  abbrev pub verdict_for : Pieces → Shape → Query Offer → Derivation → Option Bool
  verdict_for pieces t q d = option_map (asked_by theory w q d) (known_show theory w pieces t d)

  abbrev pub tree_verdict : Pieces → Shape → TreeQuery → Derivation → Option Bool
  tree_verdict pieces t q d = known_verdict theory w pieces t (candidate q d)

  -- Searches: the first tree for which a query asks, and all of them; what they still ask; whether it is known that it asks for one.
  module _ (pieces : Pieces) (t : Shape) (q : TreeQuery) where
    abbrev pub first_tree : Option (Option Derivation)
    first_tree = first_known (tree_verdict pieces t q) (known_trees t q)

    abbrev pub all_trees : Option (List Derivation)
    all_trees = all_known (tree_verdict pieces t q) (known_trees t q)

    abbrev pub asked_for_first : List (Question Derivation)
    asked_for_first = missing_to_first (tree_verdict pieces t q) (known_trees t q)

    abbrev pub asked_for_all : List (Question Derivation)
    asked_for_all = all_missing (tree_verdict pieces t q) (known_trees t q)

    abbrev pub is_known_to_hold : Bool
    is_known_to_hold = is_some (first (known_to_hold (tree_verdict pieces t q) (known_trees t q)))
