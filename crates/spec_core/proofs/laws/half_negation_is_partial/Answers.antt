use Rattle.spec_core.proofs.Examples.{half_negation_is_partial}
use Rattle.spec_core.proofs.laws.half_negation_is_partial.Goals as goal

pub returns : goal.returns
returns c = half_negation_is_partial
