use Rattle.session_board.proofs.shared.SharedBoard.+look_along.Given as goal

abbrev pub decreases-look_along : goal.decreases-look_along
decreases-look_along l = l.more
