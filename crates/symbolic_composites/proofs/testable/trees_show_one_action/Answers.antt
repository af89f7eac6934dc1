use Rattle.symbolic_composites.proofs.Trees.{trees_show_one_action}
use Rattle.symbolic_composites.proofs.testable.trees_show_one_action.Goals as goal

pub returns : goal.returns
returns c = trees_show_one_action
