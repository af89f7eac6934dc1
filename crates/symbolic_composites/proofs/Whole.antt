-- The lists of a ready specification hold all its trees, and say whether there is a step.
use Rattle.std.proofs.Common.{length}
use Rattle.rule_model.specs.Actions.{Kind}
use Rattle.rule_model.specs.Derivations.{Derivation}
use Rattle.symbolic_rules.specs.Trees.{IsSeen}
use Rattle.symbolic_composites.specs.TreeLists.{Nests, windowed_trees, beyond_trees}
use Rattle.symbolic_composites.specs.Laws.{ListsHold}
use Rattle.symbolic_composites.proofs.TreeLists.{lists_hold_their_trees, empty_lists_no_step}
use Rattle.symbolic_composites.proofs.Trees.{seen_can_be_tested}
use Rattle.symbolic_composites.specs.ReadyLaws.{ListsHoldAllTrees, ListsDecide}
use Rattle.symbolic_composites.proofs.Answers.{exact_answers_exist}
use Rattle.symbolic_composites.proofs.Nesting.{calls_nest_within_the_code}

pub lists_hold_all_trees : ListsHoldAllTrees
lists_hold_all_trees program e w ready exact b o is_seen tests = record {
  windowed_are = λ d. (λ i. lists.windowed d i, λ h. lists.each_windowed d h.0 (nests d h.0 h.1.0) h.1);
  beyond_are = λ d. (λ i. lists.beyond d i, λ h. lists.each_beyond d h.0 (nests d h.0 h.1.0) h.1);
}
  where
    lists : ListsHold program e w (length program.code) b o is_seen
    lists = lists_hold_their_trees program e w exact (length program.code) b o is_seen tests

    nests : (d : Derivation) (k : Kind) → IsSeen program w b o d k → Nests (length program.code) d
    nests d k h = calls_nest_within_the_code program ready.guarded w b o d k h

pub lists_decide : ListsDecide
lists_decide program size w ready windows b o =
    let answers = exact_answers_exist program ready in
    let test = seen_can_be_tested program answers.0 w answers.1 b o in (
      windowed_trees program.theory answers.0 w (length program.code) b o test.0,
      beyond_trees program.theory answers.0 w (length program.code) b o test.0,
      lists_hold_all_trees program answers.0 w ready answers.1 b o test.0 test.1,
      empty_lists_no_step program answers.0 size w answers.1 ready.executable windows (length program.code) b o test.0 test.1
          (calls_nest_within_the_code program ready.guarded w b o),
    )
