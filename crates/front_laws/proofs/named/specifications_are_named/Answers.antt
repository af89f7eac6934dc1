use Rattle.front_laws.proofs.Types.{specifications_are_named}
use Rattle.front_laws.proofs.named.specifications_are_named.Goals as goal

pub returns : goal.returns
returns c = specifications_are_named
