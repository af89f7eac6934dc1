use Rattle.spec_core.specs.Equality.{by_reflexivity}
use Rattle.spec_core.proofs.laws.equal_is_reflexive.Goals as goal

pub returns : goal.returns
returns c = λ theory t fits. by_reflexivity fits
