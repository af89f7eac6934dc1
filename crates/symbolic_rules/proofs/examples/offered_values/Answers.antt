use Rattle.symbolic_rules.proofs.Offering.{offered_values}
use Rattle.symbolic_rules.proofs.examples.offered_values.Goals as goal

pub returns : goal.returns
returns c = offered_values
