use Rattle.spec_core.proofs.Examples.{booleans_are_closed}
use Rattle.spec_core.proofs.laws.booleans_are_closed.Goals as goal

pub returns : goal.returns
returns c = booleans_are_closed
