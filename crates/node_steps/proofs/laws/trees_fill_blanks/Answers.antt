use Rattle.node_steps.proofs.Filling.{trees_fill_blanks}
use Rattle.node_steps.proofs.laws.trees_fill_blanks.Goals as goal

pub returns : goal.returns
returns c = trees_fill_blanks
