use Rattle.board_laws.proofs.Living.{needed_parts_are_of_trees}
use Rattle.board_laws.proofs.needed.needed_parts_are_of_trees.Goals as goal

pub returns : goal.returns
returns c = needed_parts_are_of_trees
