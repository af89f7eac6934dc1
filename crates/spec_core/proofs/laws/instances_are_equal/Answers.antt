use Rattle.std.proofs.Common.{refl}
use Rattle.spec_core.specs.Equality.{by_equation}
use Rattle.spec_core.proofs.laws.instances_are_equal.Goals as goal

pub returns : goal.returns
returns c = λ theory e s among ground ps. by_equation e s among ground ps refl refl
