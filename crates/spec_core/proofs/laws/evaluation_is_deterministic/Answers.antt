use Rattle.spec_core.proofs.OneValue.{one_value}
use Rattle.spec_core.proofs.laws.evaluation_is_deterministic.Goals as goal

pub returns : goal.returns
returns c = λ theory closed t v w n m p q. one_value theory closed p q
