use Rattle.symbolic_rules.proofs.Taking.{taken_values}
use Rattle.symbolic_rules.proofs.examples.taken_values.Goals as goal

pub returns : goal.returns
returns c = taken_values
