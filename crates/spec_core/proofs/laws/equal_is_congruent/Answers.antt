use Rattle.spec_core.specs.Equality.{by_congruence}
use Rattle.spec_core.proofs.laws.equal_is_congruent.Goals as goal

pub returns : goal.returns
returns c = λ theory f ts us fits ps. by_congruence fits ps
