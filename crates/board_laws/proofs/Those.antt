-- The first tree that a search finds is the first of the whole list.
use Rattle.std.proofs.Common.{ℕ, ◌≡◌, ◌∙◌, List, [], ◌∷◌, map, filter, refl, sym, ap, Option, Some, None, option_map, Bool}
use Rattle.spec_core.specs.Code.{Program}
use Rattle.rule_model.specs.Derivations.{Derivation}
use Rattle.symbolic_rules.specs.Windows.{Windows}
use Rattle.decision_trees.specs.Decisions.{Answers}
use Rattle.decision_trees.specs.Known.{Knowledge, decided}
use Rattle.decision_trees.specs.Lazy.{Lazy, whole, first, first_holding}
use Rattle.decision_trees.specs.Gaps.{first_known}
use Rattle.decision_trees.proofs.Asking.{decided_is_so}
use Rattle.decision_trees.proofs.Gaps.{gaps_are_so}
use Rattle.decision_trees.proofs.Searching as searching
use Rattle.symbolic_composites.specs.Composites.{Composite}
use Rattle.symbolic_composites.specs.Evaluations.{Evaluation}
use Rattle.candidate_laws.specs.Asked.{TreeQuery, TestsAsked}
use Rattle.candidate_laws.specs.TreeLaws.{lists_of}
use Rattle.candidate_laws.specs.Waiting.{Candidate, waiting_trees}
use Rattle.candidate_laws.specs.ListLaws.{answers_by, IsKnownOf}
use Rattle.candidate_laws.proofs.Decided.{lists_are_those}
use Rattle.node_trees.specs.Shapes.{Shape, stands_for}
use Rattle.candidate_verdicts.specs.Known.{Pieces}
use Rattle.candidates.specs.Listed.{knowledge, known_trees, first_tree}
use Rattle.candidates.specs.Laws.{IsKnownTree}
use Rattle.candidates.proofs.Listing.{are_those}
use Rattle.candidates.proofs.Trees.{tree_of, candidates_are, firsts as firsts_are}
use Rattle.board_laws.specs.NeededLaws.{FirstTreesAreThose}
use Rattle.board_laws.proofs.Knowing.{known_of}

first_mapped : {A B : Type 0} (f : A → B) (xs : List A) → option_map f (first xs) ≡ first (map f xs)
first_mapped f [] = refl
first_mapped f (x ∷ xs) = refl

module _ (program : Program) (e : Evaluation) (size : ℕ) (w : Windows) (t : Shape) (pieces : Pieces)
    (k : IsKnownTree program e size w t pieces) (q : TreeQuery) (is_asked : TreeQuery → Derivation → Bool)
    (tests : TestsAsked program w (stands_for program t) is_asked) where
  abbrev known : Knowledge Composite Candidate
  known = knowledge program.theory w pieces t

  abbrev lazy : Lazy Composite Candidate
  lazy = waiting_trees program.theory w t q

  -- what a search finds in the tree is what is decided of its search among candidates
  found_is : option_map (option_map tree_of) (decided known (first_holding lazy)) ≡ first_tree program.theory w pieces t q
  found_is =
      ap (option_map (option_map tree_of)) (
      (gaps_are_so Composite Candidate).firsts known lazy
      ∙ ap (first_known known.verdict) (are_those program.theory w t q k.apart ∙ sym (candidates_are q program.theory w t)))
      ∙ firsts_are q known.verdict (known_trees program.theory w t q)

  of : IsKnownOf program e size w t is_asked known
  of = known_of program e size w t pieces k is_asked tests

  abbrev answers : Answers Composite Candidate
  answers = answers_by is_asked of.items

  abbrev whole_list : List Candidate
  whole_list = filter answers.verdict (whole answers lazy)

  those : (r : Option Derivation) → first_tree program.theory w pieces t q ≡ Some r →
      r ≡ first (lists_of program e w (stands_for program t) is_asked q)
  those r h = by_found (decided known (first_holding lazy)) refl (found_is ∙ h)
    where
      by_found : (o : Option (Option Candidate)) → decided known (first_holding lazy) ≡ o → option_map (option_map tree_of) o ≡ Some r →
          r ≡ first (lists_of program e w (stands_for program t) is_asked q)
      by_found None f g = let no : ⊥ = cc in absurd no
      by_found (Some a) f g =
          let same : r ≡ option_map tree_of a = cc in
          let is_first : a ≡ first whole_list =
          sym (decided_is_so Composite Candidate (Option Candidate) known (first_holding lazy) a answers of.extends f)
          ∙ searching.firsts Composite Candidate answers lazy in
          same
          ∙ ap (option_map tree_of) is_first
          ∙ first_mapped tree_of whole_list
          ∙ ap first (lists_are_those program e size w t is_asked of.answered of.items of.are_items q)

pub first_trees_are_those : FirstTreesAreThose
first_trees_are_those program e size w t pieces k q is_asked tests r h = those program e size w t pieces k q is_asked tests r h
