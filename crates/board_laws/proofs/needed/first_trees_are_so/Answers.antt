use Rattle.board_laws.proofs.Steps.{first_trees_are_so}
use Rattle.board_laws.proofs.needed.first_trees_are_so.Goals as goal

pub returns : goal.returns
returns c = first_trees_are_so
