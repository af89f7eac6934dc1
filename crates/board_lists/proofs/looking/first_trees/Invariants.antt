use Rattle.std.proofs.Common.{◌≡◌, ◌+◌, length, map}
use Rattle.spec_core.specs.Lists.{Each}
use Rattle.rule_model.specs.Derivations.{derivation_of}
use Rattle.candidate_search.specs.Searches.{query_of}
use Rattle.candidates.specs.Walks.{ahead}
use Rattle.board_lists.specs.Looking.{HasPassed, IsSound}
use Rattle.board_lists.proofs.looking.first_trees.Given as goal

abbrev pub invariant-loop-left : goal.invariant-loop-left
invariant-loop-left l = record {
  passed : HasPassed l.board (query_of l.search) l.jobs.items (map derivation_of l.those.items) (ahead l.walk);
  sound : Each (IsSound l.board) l.jobs.items;
  counted : l.most ≡ l.left + length l.those.items + length l.jobs.items;
}

abbrev pub decreases-loop-left : goal.decreases-loop-left
decreases-loop-left l = length (ahead l.walk)
