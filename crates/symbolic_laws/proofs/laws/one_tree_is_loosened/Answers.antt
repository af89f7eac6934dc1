use Rattle.symbolic_laws.proofs.One.{one_tree_is_loosened}
use Rattle.symbolic_laws.proofs.laws.one_tree_is_loosened.Goals as goal

pub returns : goal.returns
returns c = one_tree_is_loosened
