use Rattle.symbolic_rules.proofs.Taking.{hidden_values}
use Rattle.symbolic_rules.proofs.examples.hidden_values.Goals as goal

pub returns : goal.returns
returns c = hidden_values
