use Rattle.spec_core.proofs.Definitions.{values_are_ground}
use Rattle.spec_core.proofs.laws.values_are_ground.Goals as goal

pub returns : goal.returns
returns c = values_are_ground
