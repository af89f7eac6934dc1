use Rattle.data_laws.proofs.Whole.{substitutions_go_by_values}
use Rattle.data_laws.proofs.laws.substitutions_go_by_values.Goals as goal

pub returns : goal.returns
returns c = substitutions_go_by_values
