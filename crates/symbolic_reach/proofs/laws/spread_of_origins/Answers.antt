use Rattle.symbolic_reach.proofs.Spreading.{spread_of_origins}
use Rattle.symbolic_reach.proofs.laws.spread_of_origins.Goals as goal

pub returns : goal.returns
returns c = spread_of_origins
