use Rattle.symbolic_composites.proofs.TreeLists.{lists_hold_their_trees}
use Rattle.symbolic_composites.proofs.laws.lists_hold_their_trees.Goals as goal

pub returns : goal.returns
returns c = lists_hold_their_trees
