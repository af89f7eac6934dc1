use Rattle.static_laws.proofs.SpecificationOnce.{specifications_one}
use Rattle.static_laws.proofs.specification.specifications_are_one.Goals as goal

pub returns : goal.returns
returns c = specifications_one
