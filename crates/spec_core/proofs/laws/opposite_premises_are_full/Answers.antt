use Rattle.spec_core.proofs.Examples.{opposite_premises_are_full}
use Rattle.spec_core.proofs.laws.opposite_premises_are_full.Goals as goal

pub returns : goal.returns
returns c = opposite_premises_are_full
