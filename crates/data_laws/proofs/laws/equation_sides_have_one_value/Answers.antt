use Rattle.data_laws.proofs.Whole.{equation_sides_have_one_value}
use Rattle.data_laws.proofs.laws.equation_sides_have_one_value.Goals as goal

pub returns : goal.returns
returns c = equation_sides_have_one_value
