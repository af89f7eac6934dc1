use Rattle.symbolic_rules.proofs.Ending.{given_values}
use Rattle.symbolic_rules.proofs.examples.given_values.Goals as goal

pub returns : goal.returns
returns c = given_values
