use Rattle.symbolic_rules.proofs.Nothing.{no_tree_no_step}
use Rattle.symbolic_rules.proofs.laws.no_tree_no_step.Goals as goal

pub returns : goal.returns
returns c = no_tree_no_step
