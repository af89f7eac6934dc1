use Rattle.spec_core.proofs.Definitions.{constructors_keep_values}
use Rattle.spec_core.proofs.laws.constructors_keep_values.Goals as goal

pub returns : goal.returns
returns c = constructors_keep_values
