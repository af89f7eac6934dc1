use Rattle.symbolic_rules.proofs.Ending.{handed_values}
use Rattle.symbolic_rules.proofs.examples.handed_values.Goals as goal

pub returns : goal.returns
returns c = handed_values
