-- Answers where they stand.
use Rattle.board_record.specs.declared.answered.Answered.{Answered}
use Rattle.board_record.specs.Answered.{answered_of}
use Rattle.session_board.specs.declared.spot.Spot.{Spot}
use Rattle.session_board.specs.Answers.{Found}

abbrev pub found_at : Spot → Answered → Found
found_at spot answered = record { entries = spot.lines; actions = spot.actions; answer = answered_of answered }
