use Rattle.symbolic_composites.proofs.TreeLists.{empty_lists_no_step}
use Rattle.symbolic_composites.proofs.laws.empty_lists_no_step.Goals as goal

pub returns : goal.returns
returns c = empty_lists_no_step
