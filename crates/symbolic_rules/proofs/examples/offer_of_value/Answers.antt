use Rattle.symbolic_rules.proofs.Offering.{offer_of_value}
use Rattle.symbolic_rules.proofs.examples.offer_of_value.Goals as goal

pub returns : goal.returns
returns c = offer_of_value
