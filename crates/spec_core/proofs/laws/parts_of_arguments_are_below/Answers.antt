use Rattle.spec_core.proofs.Definitions.{parts_of_arguments_are_below}
use Rattle.spec_core.proofs.laws.parts_of_arguments_are_below.Goals as goal

pub returns : goal.returns
returns c = parts_of_arguments_are_below
