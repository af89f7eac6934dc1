use Rattle.symbolic_rules.proofs.Nothing.{no_unseen_tree_no_unseen_step}
use Rattle.symbolic_rules.proofs.laws.no_unseen_tree_no_unseen_step.Goals as goal

pub returns : goal.returns
returns c = no_unseen_tree_no_unseen_step
