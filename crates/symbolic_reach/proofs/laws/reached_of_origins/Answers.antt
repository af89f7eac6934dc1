use Rattle.symbolic_reach.proofs.Reaching.{reached_of_origins}
use Rattle.symbolic_reach.proofs.laws.reached_of_origins.Goals as goal

pub returns : goal.returns
returns c = reached_of_origins
