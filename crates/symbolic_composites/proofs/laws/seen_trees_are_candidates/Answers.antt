use Rattle.symbolic_composites.proofs.TreeLists.{seen_trees_are_candidates}
use Rattle.symbolic_composites.proofs.laws.seen_trees_are_candidates.Goals as goal

pub returns : goal.returns
returns c = seen_trees_are_candidates
