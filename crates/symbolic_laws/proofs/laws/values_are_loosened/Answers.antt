use Rattle.symbolic_laws.proofs.Examples.{values_are_loosened}
use Rattle.symbolic_laws.proofs.laws.values_are_loosened.Goals as goal

pub returns : goal.returns
returns c = values_are_loosened
