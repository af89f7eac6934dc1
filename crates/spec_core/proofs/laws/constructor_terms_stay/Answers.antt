use Rattle.spec_core.proofs.Definitions.{constructor_terms_stay}
use Rattle.spec_core.proofs.laws.constructor_terms_stay.Goals as goal

pub returns : goal.returns
returns c = constructor_terms_stay
