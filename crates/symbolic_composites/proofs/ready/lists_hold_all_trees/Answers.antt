use Rattle.symbolic_composites.proofs.Whole.{lists_hold_all_trees}
use Rattle.symbolic_composites.proofs.ready.lists_hold_all_trees.Goals as goal

pub returns : goal.returns
returns c = lists_hold_all_trees
