use Rattle.symbolic_laws.proofs.Loosening.{each_step_has_its_tree}
use Rattle.symbolic_laws.proofs.laws.each_step_has_its_tree.Goals as goal

pub returns : goal.returns
returns c = each_step_has_its_tree
