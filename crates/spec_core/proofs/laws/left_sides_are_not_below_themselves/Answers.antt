use Rattle.spec_core.proofs.Definitions.{left_sides_are_not_below_themselves}
use Rattle.spec_core.proofs.laws.left_sides_are_not_below_themselves.Goals as goal

pub returns : goal.returns
returns c = left_sides_are_not_below_themselves
