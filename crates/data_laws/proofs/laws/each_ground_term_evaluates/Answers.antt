use Rattle.data_laws.proofs.Whole.{each_ground_term_evaluates}
use Rattle.data_laws.proofs.laws.each_ground_term_evaluates.Goals as goal

pub returns : goal.returns
returns c = each_ground_term_evaluates
