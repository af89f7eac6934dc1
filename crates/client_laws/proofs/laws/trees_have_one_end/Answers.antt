use Rattle.client_laws.proofs.OneEnd.{trees_have_one_end}
use Rattle.client_laws.proofs.laws.trees_have_one_end.Goals as goal

pub returns : goal.returns
returns c = trees_have_one_end
