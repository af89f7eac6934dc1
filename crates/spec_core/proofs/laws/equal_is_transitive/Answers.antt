use Rattle.spec_core.specs.Equality.{by_transitivity}
use Rattle.spec_core.proofs.laws.equal_is_transitive.Goals as goal

pub returns : goal.returns
returns c = λ theory a b d p q. by_transitivity b p q
