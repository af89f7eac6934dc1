use Rattle.symbolic_laws.proofs.Marked.{loosened_trees_are_marked}
use Rattle.symbolic_laws.proofs.laws.loosened_trees_are_marked.Goals as goal

pub returns : goal.returns
returns c = loosened_trees_are_marked
