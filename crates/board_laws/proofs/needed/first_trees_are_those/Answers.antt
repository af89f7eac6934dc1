use Rattle.board_laws.proofs.Those.{first_trees_are_those}
use Rattle.board_laws.proofs.needed.first_trees_are_those.Goals as goal

pub returns : goal.returns
returns c = first_trees_are_those
