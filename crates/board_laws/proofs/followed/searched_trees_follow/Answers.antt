use Rattle.board_laws.proofs.Following.{searched_trees_follow}
use Rattle.board_laws.proofs.followed.searched_trees_follow.Goals as goal

pub returns : goal.returns
returns c = searched_trees_follow
