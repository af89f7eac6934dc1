use Rattle.equation_overlaps.proofs.General.{of_both}
use Rattle.equation_overlaps.proofs.laws.common_instances_are_instances.Goals as goal

pub returns : goal.returns
returns c = of_both
