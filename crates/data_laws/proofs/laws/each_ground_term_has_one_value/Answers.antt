use Rattle.data_laws.proofs.Whole.{each_ground_term_has_one_value}
use Rattle.data_laws.proofs.laws.each_ground_term_has_one_value.Goals as goal

pub returns : goal.returns
returns c = each_ground_term_has_one_value
