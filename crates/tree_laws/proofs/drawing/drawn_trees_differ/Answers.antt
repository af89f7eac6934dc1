use Rattle.tree_laws.proofs.Choosing.{drawn_trees_differ}
use Rattle.tree_laws.proofs.drawing.drawn_trees_differ.Goals as goal

pub returns : goal.returns
returns c = drawn_trees_differ
