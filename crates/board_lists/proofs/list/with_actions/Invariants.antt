use Rattle.std.proofs.Common.{◌≡◌, map, take}
use Rattle.spec_core.specs.Lists.{Each}
use Rattle.rule_model.specs.Derivations.{derivation_of}
use Rattle.board_core.specs.Views.{program, state, tree}
use Rattle.board_lists.specs.Listings.{IsCandidate, tree_in}
use Rattle.board_lists.proofs.list.with_actions.Given as goal

abbrev pub invariant-loop-rules : goal.invariant-loop-rules
invariant-loop-rules l = record {
  trees : map tree_in l.all.items ≡ map derivation_of (take l.rules-index l.those);
  candidates : Each (IsCandidate (program l.board) (state l.board) (tree l.board)) l.all.items;
}
