-- Searches among candidates, as searches among their trees.
use Rattle.std.proofs.Common.{◌≡◌, ◌++◌, ◌∙◌, List, [], ◌∷◌, map, flat_map, refl, ap, Option, Some, None, option_map, Bool, true}
use Rattle.std.proofs.Common.{false, cond, if◌then◌else◌}
use Rattle.std.specs.Prelude.{is_some}
use Rattle.std.proofs.lemmas.List.{map-append}
use Rattle.spec_core.specs.Theories.{Theory}
use Rattle.rule_model.specs.Derivations.{Derivation}
use Rattle.symbolic_rules.specs.Windows.{Windows}
use Rattle.decision_trees.specs.Decisions.{expand, judge}
use Rattle.decision_trees.specs.Known.{where_known, known_or, unless_known}
use Rattle.decision_trees.specs.Lazy.{first}
use Rattle.decision_trees.specs.Rules.{meeting, any, unseen, beyond, any_beyond, beyond_or_unseen}
use Rattle.decision_trees.specs.Gaps.{OrGap, element, gap, in_its_place, first_known, all_known, missing_to_first, all_missing, known_to_hold}
use Rattle.candidate_laws.specs.Asked.{TreeQuery}
use Rattle.candidate_search.specs.Searches.{for_offer, asked_from}
use Rattle.candidate_laws.specs.Waiting.{Candidate, candidate, sought_by}
use Rattle.node_trees.specs.Shapes.{Shape}
use Rattle.candidate_composites.specs.Known.{PlanOrGap, sought_plans}
use Rattle.candidates.specs.Listed.{kinds_sought, candidates_in, known_candidates, known_trees}
use Rattle.candidates.specs.Jobs.{of_tree}

-- a query seeks what the query for its offer seeks
pub same_sought : (q : TreeQuery) → kinds_sought (for_offer q) ≡ sought_by q
same_sought (meeting p) = refl
same_sought any = refl
same_sought unseen = refl
same_sought (beyond p) = refl
same_sought any_beyond = refl
same_sought (beyond_or_unseen p) = refl

abbrev pub tree_of : Candidate → Derivation
tree_of a = a.tree

module _ (q : TreeQuery) where
  -- the candidate with a tree
  abbrev pub with_query : OrGap Derivation → OrGap Candidate
  with_query (element d) = element (candidate q d)
  with_query (gap g) = gap g

  placed : (ds : List Derivation) → map with_query (map element ds) ≡ map element (map (candidate q) ds)
  placed [] = refl
  placed (d ∷ ds) = ap (λ z. element (candidate q d) ∷ z) (placed ds)

  module _ (theory : Theory) (w : Windows) where
    of_plans : (ps : List PlanOrGap) →
        map with_query (flat_map (in_its_place (λ p. map element (asked_from theory w (for_offer q) p 0))) ps) ≡ candidates_in theory w q ps
    of_plans [] = refl
    of_plans (element p ∷ ps) =
        let ds = asked_from theory w (for_offer q) p 0 in
        let rest = flat_map (in_its_place (λ p. map element (asked_from theory w (for_offer q) p 0))) ps in
        map-append with_query (map element ds) rest
        ∙ ap (λ z. z ++ map with_query rest) (placed ds) ∙ ap (λ z. map element (map (candidate q) ds) ++ z) (of_plans ps)
    of_plans (gap g ∷ ps) = ap (λ z. gap g ∷ z) (of_plans ps)

    pub candidates_are : (t : Shape) → map with_query (known_trees theory w t q) ≡ known_candidates theory w t q
    candidates_are t =
        of_plans (sought_plans theory t (kinds_sought (for_offer q))) ∙ ap (λ v. candidates_in theory w q (sought_plans theory t v)) (same_sought q)

  module _ (verdict : Candidate → Option Bool) where
    abbrev of : Derivation → Option Bool
    of d = verdict (candidate q d)

    -- the trees of what is found
    abbrev trees : Option (Option Candidate) → Option (Option Derivation)
    trees o = option_map (option_map tree_of) o

    pub firsts : (l : List (OrGap Derivation)) → trees (first_known verdict (map with_query l)) ≡ first_known of l
    firsts [] = refl
    firsts (gap g ∷ l) = refl
    firsts (element d ∷ l) = by_verdict (of d) (firsts l)
      where
        by_verdict : (o : Option Bool) → trees (first_known verdict (map with_query l)) ≡ first_known of l →
            trees (where_known o (λ b. if b then Some (Some (candidate q d)) else first_known verdict (map with_query l))) ≡
            where_known o (λ b. if b then Some (Some d) else first_known of l)
        by_verdict None e = refl
        by_verdict (Some true) e = refl
        by_verdict (Some false) e = e

    all_of : Option (List Candidate) → Option (List Derivation)
    all_of o = option_map (map tree_of) o

    one_more : (d : Derivation) (o : Option (List Candidate)) (p : Option (List Derivation)) → option_map (map tree_of) o ≡ p →
        option_map (map tree_of) (option_map (λ xs. candidate q d ∷ xs) o) ≡ option_map (λ xs. d ∷ xs) p
    one_more d None None e = refl
    one_more d None (Some p) e = let no : ⊥ = cc in absurd no
    one_more d (Some o) None e = let no : ⊥ = cc in absurd no
    one_more d (Some o) (Some p) e = let same : map tree_of o ≡ p = cc in ap (λ z. Some (d ∷ z)) same

    pub alls : (l : List (OrGap Derivation)) → option_map (map tree_of) (all_known verdict (map with_query l)) ≡ all_known of l
    alls [] = refl
    alls (gap g ∷ l) = refl
    alls (element d ∷ l) = by_verdict (of d) (alls l)
      where
        by_verdict : (o : Option Bool) → option_map (map tree_of) (all_known verdict (map with_query l)) ≡ all_known of l →
            option_map (map tree_of) (where_known o (λ b.
            if b then option_map (λ xs. candidate q d ∷ xs) (all_known verdict (map with_query l)) else all_known verdict (map with_query l))) ≡
            where_known o (λ b. if b then option_map (λ xs. d ∷ xs) (all_known of l) else all_known of l)
        by_verdict None e = refl
        by_verdict (Some true) e = one_more d (all_known verdict (map with_query l)) (all_known of l) e
        by_verdict (Some false) e = e

    pub missing_firsts : (l : List (OrGap Derivation)) → map of_tree (missing_to_first verdict (map with_query l)) ≡ missing_to_first of l
    missing_firsts [] = refl
    missing_firsts (gap g ∷ l) = ap (λ z. expand g ∷ z) (missing_firsts l)
    missing_firsts (element d ∷ l) = by_verdict (of d) (missing_firsts l)
      where
        by_verdict : (o : Option Bool) → map of_tree (missing_to_first verdict (map with_query l)) ≡ missing_to_first of l →
            map of_tree (unless_known o (judge (candidate q d)) (if known_or o false then [] else missing_to_first verdict (map with_query l))) ≡
            unless_known o (judge d) (if known_or o false then [] else missing_to_first of l)
        by_verdict None e = ap (λ z. judge d ∷ z) e
        by_verdict (Some true) e = refl
        by_verdict (Some false) e = e

    pub missing_alls : (l : List (OrGap Derivation)) → map of_tree (all_missing verdict (map with_query l)) ≡ all_missing of l
    missing_alls [] = refl
    missing_alls (gap g ∷ l) = ap (λ z. expand g ∷ z) (missing_alls l)
    missing_alls (element d ∷ l) = by_verdict (of d) (missing_alls l)
      where
        by_verdict : (o : Option Bool) → map of_tree (all_missing verdict (map with_query l)) ≡ all_missing of l →
            map of_tree (unless_known o (judge (candidate q d)) (all_missing verdict (map with_query l))) ≡
            unless_known o (judge d) (all_missing of l)
        by_verdict None e = ap (λ z. judge d ∷ z) e
        by_verdict (Some b) e = e

    pub held : (l : List (OrGap Derivation)) →
        is_some (first (known_to_hold verdict (map with_query l))) ≡ is_some (first (known_to_hold of l))
    held [] = refl
    held (gap g ∷ l) = held l
    held (element d ∷ l) = by_test (known_or (of d) false) (held l)
      where
        by_test : (b : Bool) → is_some (first (known_to_hold verdict (map with_query l))) ≡ is_some (first (known_to_hold of l)) →
            is_some (first (cond b (candidate q d ∷ known_to_hold verdict (map with_query l)) (known_to_hold verdict (map with_query l)))) ≡
            is_some (first (cond b (d ∷ known_to_hold of l) (known_to_hold of l)))
        by_test true e = refl
        by_test false e = e
