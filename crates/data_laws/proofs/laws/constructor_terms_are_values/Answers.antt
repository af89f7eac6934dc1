use Rattle.data_laws.proofs.Whole.{constructor_terms_are_values}
use Rattle.data_laws.proofs.laws.constructor_terms_are_values.Goals as goal

pub returns : goal.returns
returns c = constructor_terms_are_values
