use Rattle.candidate_laws.proofs.Listed.{asked_trees_are_listed}
use Rattle.candidate_laws.proofs.tree_laws.asked_trees_are_listed.Goals as goal

pub returns : goal.returns
returns c = asked_trees_are_listed
