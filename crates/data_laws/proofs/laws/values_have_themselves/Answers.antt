use Rattle.data_laws.proofs.Whole.{values_have_themselves}
use Rattle.data_laws.proofs.laws.values_have_themselves.Goals as goal

pub returns : goal.returns
returns c = values_have_themselves
