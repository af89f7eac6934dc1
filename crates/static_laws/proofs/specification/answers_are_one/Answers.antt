use Rattle.static_laws.proofs.SpecificationOnce.{answers_one}
use Rattle.static_laws.proofs.specification.answers_are_one.Goals as goal

pub returns : goal.returns
returns c = answers_one
