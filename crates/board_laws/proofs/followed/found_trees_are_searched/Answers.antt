use Rattle.board_laws.proofs.Finding.{found_trees_are_searched}
use Rattle.board_laws.proofs.followed.found_trees_are_searched.Goals as goal

pub returns : goal.returns
returns c = found_trees_are_searched
