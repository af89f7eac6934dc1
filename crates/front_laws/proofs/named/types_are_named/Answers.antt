use Rattle.front_laws.proofs.Types.{types_are_named}
use Rattle.front_laws.proofs.named.types_are_named.Goals as goal

pub returns : goal.returns
returns c = types_are_named
