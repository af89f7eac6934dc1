-- The trees that a search has found stand first in the list of all trees that are asked for.
use Rattle.std.proofs.Common.{ℕ, ◌≡◌, ◌++◌, ◌∙◌, List, [], map, filter, refl, sym, ap, subst, Option, Some, None, option_map, Bool}
use Rattle.std.proofs.lemmas.List.{map-append}
use Rattle.spec_core.specs.Code.{Program}
use Rattle.rule_model.specs.Derivations.{Derivation}
use Rattle.symbolic_rules.specs.Windows.{Windows}
use Rattle.symbolic_composites.specs.Composites.{Composite}
use Rattle.symbolic_composites.specs.Evaluations.{Evaluation}
use Rattle.decision_trees.specs.Decisions.{Answers}
use Rattle.decision_trees.specs.Known.{Knowledge}
use Rattle.decision_trees.specs.Lazy.{Lazy, whole}
use Rattle.decision_trees.specs.Gaps.{OrGap, all_known, with_gaps}
use Rattle.candidate_laws.specs.Asked.{TreeQuery, TestsAsked}
use Rattle.candidate_laws.specs.TreeLaws.{lists_of}
use Rattle.candidate_laws.specs.Waiting.{Candidate, waiting_trees}
use Rattle.candidate_laws.specs.ListLaws.{answers_by, IsKnownOf}
use Rattle.candidate_laws.proofs.Decided.{lists_are_those}
use Rattle.node_trees.specs.Shapes.{Shape, stands_for}
use Rattle.candidate_verdicts.specs.Known.{Pieces}
use Rattle.candidates.specs.Listed.{knowledge, known_trees, tree_verdict}
use Rattle.candidates.specs.Laws.{IsKnownTree}
use Rattle.candidates.proofs.Listing.{are_those}
use Rattle.candidates.proofs.Trees.{tree_of, with_query, candidates_are, alls}
use Rattle.board_laws.proofs.Knowing.{known_of}
use Rattle.board_lists.proofs.Fronts.{IsFront, front_of}

module _ (program : Program) (e : Evaluation) (size : ℕ) (w : Windows) (t : Shape) (pieces : Pieces)
    (k : IsKnownTree program e size w t pieces) (q : TreeQuery) (is_asked : TreeQuery → Derivation → Bool)
    (tests : TestsAsked program w (stands_for program t) is_asked) where
  abbrev known : Knowledge Composite Candidate
  known = knowledge program.theory w pieces t

  abbrev lazy : Lazy Composite Candidate
  lazy = waiting_trees program.theory w t q

  of : IsKnownOf program e size w t is_asked known
  of = known_of program e size w t pieces k is_asked tests

  abbrev answers : Answers Composite Candidate
  answers = answers_by is_asked of.items

  abbrev trees : List Derivation
  trees = lists_of program e w (stands_for program t) is_asked q

  -- the list of candidates that waits is the one of the trees
  parted : (passed left : List (OrGap Derivation)) → known_trees program.theory w t q ≡ passed ++ left →
      with_gaps known.items lazy ≡ map (with_query q) passed ++ map (with_query q) left
  parted passed left e =
      are_those program.theory w t q k.apart
      ∙ sym (candidates_are q program.theory w t) ∙ ap (map (with_query q)) e ∙ map-append (with_query q) passed left

  mapped_front : {B C : Type 0} (left : List B) (others : List C) (cs all : List Candidate) → (left ≡ [] → others ≡ []) →
      IsFront others cs all → IsFront left (map tree_of cs) (map tree_of all)
  mapped_front left others cs all h f = record {
    others = map tree_of f.others;
    parts = ap (map tree_of) f.parts ∙ map-append tree_of cs f.others;
    all_of_them = λ e. ap (map tree_of) (f.all_of_them (h e));
  }

  pub front : (passed left : List (OrGap Derivation)) (ds : List Derivation) → known_trees program.theory w t q ≡ passed ++ left →
      all_known (tree_verdict program.theory w pieces t q) passed ≡ Some ds → IsFront left ds trees
  front passed left ds split h =
      by_found (all_known known.verdict (map (with_query q) passed)) refl (alls q known.verdict passed ∙ h)
    where
      by_found : (o : Option (List Candidate)) → all_known known.verdict (map (with_query q) passed) ≡ o →
          option_map (map tree_of) o ≡ Some ds → IsFront left ds trees
      by_found None f g = let never : ⊥ = cc in absurd never
      by_found (Some cs) f g =
          let same : map tree_of cs ≡ ds = cc in
          let front =
          front_of known answers of.extends lazy (map (with_query q) passed) (map (with_query q) left) cs (parted passed left split) f
          in
          let there =
          mapped_front left (map (with_query q) left) cs (filter answers.verdict (whole answers lazy))
          (λ z. ap (map (with_query q)) z) front
          in
          subst (λ (z : List Derivation). IsFront left z trees) same
          (subst (λ (z : List Derivation). IsFront left (map tree_of cs) z)
          (lists_are_those program e size w t is_asked of.answered of.items of.are_items q) there)
