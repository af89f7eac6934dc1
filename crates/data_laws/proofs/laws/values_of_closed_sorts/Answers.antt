use Rattle.data_laws.proofs.Whole.{values_of_closed_sorts}
use Rattle.data_laws.proofs.laws.values_of_closed_sorts.Goals as goal

pub returns : goal.returns
returns c = values_of_closed_sorts
