use Rattle.symbolic_composites.proofs.Whole.{lists_decide}
use Rattle.symbolic_composites.proofs.ready.lists_decide.Goals as goal

pub returns : goal.returns
returns c = lists_decide
