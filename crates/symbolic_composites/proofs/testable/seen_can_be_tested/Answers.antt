use Rattle.symbolic_composites.proofs.Trees.{seen_can_be_tested}
use Rattle.symbolic_composites.proofs.testable.seen_can_be_tested.Goals as goal

pub returns : goal.returns
returns c = seen_can_be_tested
