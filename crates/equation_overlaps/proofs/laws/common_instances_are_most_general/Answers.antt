use Rattle.equation_overlaps.proofs.General.{most_general}
use Rattle.equation_overlaps.proofs.laws.common_instances_are_most_general.Goals as goal

pub returns : goal.returns
returns c = most_general
