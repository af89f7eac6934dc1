use Rattle.symbolic_rules.proofs.Taking.{offer_gives}
use Rattle.symbolic_rules.proofs.examples.offer_gives.Goals as goal

pub returns : goal.returns
returns c = offer_gives
