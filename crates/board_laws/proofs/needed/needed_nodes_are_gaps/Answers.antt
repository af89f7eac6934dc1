use Rattle.board_laws.proofs.Living.{needed_nodes_are_gaps}
use Rattle.board_laws.proofs.needed.needed_nodes_are_gaps.Goals as goal

pub returns : goal.returns
returns c = needed_nodes_are_gaps
