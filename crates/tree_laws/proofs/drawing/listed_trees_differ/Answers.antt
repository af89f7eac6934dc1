use Rattle.tree_laws.proofs.Choosing.{listed_trees_differ}
use Rattle.tree_laws.proofs.drawing.listed_trees_differ.Goals as goal

pub returns : goal.returns
returns c = listed_trees_differ
