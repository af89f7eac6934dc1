use Rattle.spec_core.specs.Equality.{by_symmetry}
use Rattle.spec_core.proofs.laws.equal_is_symmetric.Goals as goal

pub returns : goal.returns
returns c = λ theory a b p. by_symmetry p
