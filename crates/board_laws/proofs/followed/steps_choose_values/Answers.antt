use Rattle.board_laws.proofs.FollowedGiven.{steps_choose_values}
use Rattle.board_laws.proofs.followed.steps_choose_values.Goals as goal

pub returns : goal.returns
returns c = steps_choose_values
