use Rattle.symbolic_rules.proofs.Offering.{unused_values}
use Rattle.symbolic_rules.proofs.examples.unused_values.Goals as goal

pub returns : goal.returns
returns c = unused_values
