use Rattle.data_laws.proofs.Whole.{equality_is_of_values}
use Rattle.data_laws.proofs.laws.equality_is_of_values.Goals as goal

pub returns : goal.returns
returns c = equality_is_of_values
