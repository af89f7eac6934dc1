use Rattle.data_laws.proofs.Whole.{evaluation_reaches_values}
use Rattle.data_laws.proofs.laws.evaluation_reaches_values.Goals as goal

pub returns : goal.returns
returns c = evaluation_reaches_values
