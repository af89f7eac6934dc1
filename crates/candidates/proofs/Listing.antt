-- The candidates of a tree, as far as it is expanded, are those of its list that waits.
use Rattle.std.proofs.Common.{◌≡◌, ◌++◌, ◌∙◌, List, [], ◌∷◌, map, flat_map, refl, sym, ap, Option, Some, None, option_map}
use Rattle.std.specs.Prelude.{option_and_then}
use Rattle.spec_core.specs.Theories.{Theory}
use Rattle.symbolic_rules.specs.Windows.{Windows}
use Rattle.decision_trees.specs.Lazy.{of_list}
use Rattle.decision_trees.specs.Gaps.{element, gap, with_gaps, in_its_place}
use Rattle.decision_trees.proofs.Gaps.{parts_are_so}
use Rattle.symbolic_composites.specs.Composites.{Composite}
use Rattle.symbolic_plans.specs.OpenPlans.{OpenPlan, composite_of}
use Rattle.symbolic_plans.specs.Laws.{composites_of}
use Rattle.candidate_laws.specs.Asked.{TreeQuery}
use Rattle.candidate_search.proofs.Found.{searches_find_all}
use Rattle.candidate_laws.specs.Waiting.{Candidate, candidate, sought_by, trees_asked, waiting_composites, waiting_trees}
use Rattle.node_trees.specs.Generations.{AreApart}
use Rattle.node_trees.specs.Rests.{Work}
use Rattle.node_trees.specs.Shapes.{Above, Held, Shape, Stands, node_at}
use Rattle.node_trees.proofs.Finding.{found_is_node, none_lives}
use Rattle.candidate_composites.specs.Known.{PlanOrGap, sought_plans}
use Rattle.candidate_composites.specs.Laws.{composite_or_gap, AreExpanded}
use Rattle.candidate_composites.proofs.Those.{known_plans_are_those}
use Rattle.candidates.specs.Listed.{candidates_of, candidates_in, known_candidates, items_in}
use Rattle.candidates.specs.Laws.{KnownCandidatesAreThose}

-- a node that stands in a tree is found by its generation
pub node_found : (t : Shape) → AreApart t → (up : List Above) (n : Held) → Stands t up n → node_at n.generation t ≡ Some n
node_found t apart up n s = by_found (node_at n.generation t) refl
  where
    by_found : (o : Option Held) → node_at n.generation t ≡ o → o ≡ Some n
    by_found None e = absurd (none_lives n.generation t e (record { node = n; is = record { up = up; stands = s; same = refl } }))
    by_found (Some m) e =
        let i = found_is_node n.generation t m e in
        ap Some (apart i.up up m n i.stands s i.same).1

module _ (theory : Theory) (w : Windows) (t : Shape) where
  -- the composites of a node's work
  abbrev of_work : Held → Option (List Composite)
  of_work n = option_map (λ (x : Work). composites_of theory w x.plans) n.work

  pub are_expanded : AreApart t → AreExpanded theory w (items_in theory w t) t
  are_expanded apart up n s = ap (option_and_then of_work) (node_found t apart up n s)

  module _ (q : TreeQuery) where
    -- the candidates of a composite
    abbrev asked : Composite → List Candidate
    asked c = map (candidate q) (trees_asked theory w q c)

    one_plan : (p : OpenPlan) →
        with_gaps (items_in theory w t) (of_list (asked (composite_of theory w p))) ≡ map element (candidates_of theory w q p)
    one_plan p =
        (parts_are_so Composite Candidate Candidate).listed (items_in theory w t) (asked (composite_of theory w p))
        ∙ ap (λ ds. map element (map (candidate q) ds)) (sym (searches_find_all theory w q p))

    places : (ps : List PlanOrGap) →
        flat_map (in_its_place (λ c. with_gaps (items_in theory w t) (of_list (asked c)))) (map (composite_or_gap theory w) ps) ≡
        candidates_in theory w q ps
    places [] = refl
    places (element p ∷ ps) =
        ap (λ z. z ++ flat_map (in_its_place (λ c. with_gaps (items_in theory w t) (of_list (asked c)))) (map (composite_or_gap theory w) ps))
        (one_plan p)
        ∙ ap (λ z. map element (candidates_of theory w q p) ++ z) (places ps)
    places (gap g ∷ ps) = ap (λ z. gap g ∷ z) (places ps)

    pub are_those : AreApart t → with_gaps (items_in theory w t) (waiting_trees theory w t q) ≡ known_candidates theory w t q
    are_those apart =
        (parts_are_so Composite Composite Candidate).flat (items_in theory w t) (λ c. of_list (asked c))
        (waiting_composites theory w t (sought_by q))
        ∙ ap (flat_map (in_its_place (λ c. with_gaps (items_in theory w t) (of_list (asked c)))))
        (sym (known_plans_are_those theory w (items_in theory w t) t (are_expanded apart) (sought_by q)))
        ∙ places (sought_plans theory t (sought_by q))

pub known_candidates_are_those : KnownCandidatesAreThose
known_candidates_are_those theory w t apart q = are_those theory w t q apart
