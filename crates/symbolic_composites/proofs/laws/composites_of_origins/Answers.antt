use Rattle.symbolic_composites.proofs.Origins.{composites_of_origins}
use Rattle.symbolic_composites.proofs.laws.composites_of_origins.Goals as goal

pub returns : goal.returns
returns c = composites_of_origins
