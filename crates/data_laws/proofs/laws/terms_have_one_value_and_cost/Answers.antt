use Rattle.data_laws.proofs.Whole.{terms_have_one_value_and_cost}
use Rattle.data_laws.proofs.laws.terms_have_one_value_and_cost.Goals as goal

pub returns : goal.returns
returns c = terms_have_one_value_and_cost
