-- Where searches in a tree ask no job, the rules decide.
use Rattle.std.proofs.Common.{ℕ, ◌≡◌, List, [], ◌∷◌, flat_map, refl, ap, subst, Option, Some, None, option_map, Bool, true, false, cond}
use Rattle.std.proofs.Common.{if◌then◌else◌}
use Rattle.std.specs.Prelude.{is_some}
use Rattle.spec_core.specs.Theories.{Theory}
use Rattle.spec_core.proofs.Lists.{left_empty}
use Rattle.spec_core.proofs.Options.{not_mapped}
use Rattle.rule_model.specs.Derivations.{Derivation}
use Rattle.rule_model.specs.States.{PendingOffer}
use Rattle.symbolic_rules.specs.Windows.{Windows}
use Rattle.decision_trees.specs.Decisions.{Question, expand, judge}
use Rattle.decision_trees.specs.Known.{where_known, known_or, unless_known}
use Rattle.decision_trees.specs.Lazy.{first}
use Rattle.decision_trees.specs.Gaps.{OrGap, element, gap, first_known, all_known, missing_to_first, all_missing, known_to_hold}
use Rattle.decision_trees.specs.Rules.{Waiting}
use Rattle.candidate_laws.specs.Asked.{TreeQuery}
use Rattle.candidate_search.specs.Searches.{for_offer}
use Rattle.node_trees.specs.Shapes.{Shape}
use Rattle.candidate_verdicts.specs.Known.{Pieces, known_show, missing_parts}
use Rattle.candidate_verdicts.specs.Asked.{asked_by}
use Rattle.candidate_verdicts.proofs.Missing.{missing_parts_are_missing}
use Rattle.candidates.specs.Listed.{tree_verdict, known_trees, first_tree, all_trees, asked_for_first, asked_for_all, is_known_to_hold}
use Rattle.candidates.specs.Jobs.{to_judge, jobs_of, all_jobs}
use Rattle.board_laws.specs.Needed.{jobs_needed, entry_decided}
use Rattle.board_laws.specs.NeededLaws.{NothingNeededIsDecided}
use Rattle.board_laws.proofs.NeededLists.{map_empty}
use Rattle.board_laws.proofs.Settled.{IsDecided, IsFirst, AreAll, settled}

-- A search that asks nothing, where each question that it may ask has a job.
module _ {A J : Type 0} (verdict : A → Option Bool) (jobs : Question A → List J)
    (at_gap : (g : ℕ) → jobs (expand g) ≡ [] → ⊥) (at_element : (a : A) → verdict a ≡ None → jobs (judge a) ≡ [] → ⊥) where
  firsts : (l : List (OrGap A)) → flat_map jobs (missing_to_first verdict l) ≡ [] →
      IsFirst (first_known verdict l) (is_some (first (known_to_hold verdict l)))
  firsts [] e = record { found = None; is = refl; same = refl }
  firsts (gap g ∷ l) e = absurd (at_gap g (left_empty (jobs (expand g)) (flat_map jobs (missing_to_first verdict l)) e))
  firsts (element a ∷ l) e = by_verdict (verdict a) refl (λ n. firsts l n) e
    where
      by_verdict : (o : Option Bool) → verdict a ≡ o →
          (flat_map jobs (missing_to_first verdict l) ≡ [] → IsFirst (first_known verdict l) (is_some (first (known_to_hold verdict l)))) →
          flat_map jobs (unless_known o (judge a) (if known_or o false then [] else missing_to_first verdict l)) ≡ [] →
          IsFirst (where_known o (λ b. if b then Some (Some a) else first_known verdict l))
          (is_some (first (cond (known_or o false) (a ∷ known_to_hold verdict l) (known_to_hold verdict l))))
      by_verdict None t h n = absurd (at_element a t (left_empty (jobs (judge a)) (flat_map jobs (missing_to_first verdict l)) n))
      by_verdict (Some true) t h n = record { found = Some a; is = refl; same = refl }
      by_verdict (Some false) t h n = h n

  alls : (l : List (OrGap A)) → flat_map jobs (all_missing verdict l) ≡ [] →
      AreAll (all_known verdict l) (is_some (first (known_to_hold verdict l)))
  alls [] e = record { found = []; is = refl; same = refl }
  alls (gap g ∷ l) e = absurd (at_gap g (left_empty (jobs (expand g)) (flat_map jobs (all_missing verdict l)) e))
  alls (element a ∷ l) e = by_verdict (verdict a) refl (λ n. alls l n) e
    where
      by_verdict : (o : Option Bool) → verdict a ≡ o →
          (flat_map jobs (all_missing verdict l) ≡ [] → AreAll (all_known verdict l) (is_some (first (known_to_hold verdict l)))) →
          flat_map jobs (unless_known o (judge a) (all_missing verdict l)) ≡ [] →
          AreAll (where_known o (λ b. if b then option_map (λ xs. a ∷ xs) (all_known verdict l) else all_known verdict l))
          (is_some (first (cond (known_or o false) (a ∷ known_to_hold verdict l) (known_to_hold verdict l))))
      by_verdict None t h n = absurd (at_element a t (left_empty (jobs (judge a)) (flat_map jobs (all_missing verdict l)) n))
      by_verdict (Some true) t h n =
          let r = h n in record { found = a ∷ r.found; is = ap (option_map (λ xs. a ∷ xs)) r.is; same = refl }
      by_verdict (Some false) t h n = h n

module _ (theory : Theory) (w : Windows) (t : Shape) (pieces : Pieces) where
  gaps_have_jobs : (g : ℕ) → jobs_of pieces t (expand g) ≡ [] → ⊥
  gaps_have_jobs g e = cc

  trees_have_jobs : (q : TreeQuery) (d : Derivation) → tree_verdict theory w pieces t q d ≡ None → jobs_of pieces t (judge d) ≡ [] → ⊥
  trees_have_jobs q d e n =
      (missing_parts_are_missing theory w pieces t d).some
      (not_mapped (asked_by theory w (for_offer q) d) (known_show theory w pieces t d) e)
      (map_empty to_judge (missing_parts pieces t d) n)

  pub decided : (state : Waiting PendingOffer) → jobs_needed theory w t pieces state ≡ [] →
      IsDecided (entry_decided theory w t pieces state)
  decided state e =
      settled (first_tree theory w pieces t) (all_trees theory w pieces t) (λ q. all_jobs pieces t (asked_for_first theory w pieces t q))
      (λ q. all_jobs pieces t (asked_for_all theory w pieces t q)) (is_known_to_hold theory w pieces t) state
      (λ q n. firsts (tree_verdict theory w pieces t q) (jobs_of pieces t) gaps_have_jobs (trees_have_jobs q) (known_trees theory w t q) n)
      (λ q n. alls (tree_verdict theory w pieces t q) (jobs_of pieces t) gaps_have_jobs (trees_have_jobs q) (known_trees theory w t q) n) e

pub nothing_needed_is_decided : NothingNeededIsDecided
nothing_needed_is_decided theory w t pieces state e n = subst IsDecided n (decided theory w t pieces state e)
