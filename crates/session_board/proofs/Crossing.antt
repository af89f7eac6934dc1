-- What stands behind the lock may go to other threads.
use denote.Param.Send.{IsSend, recorded_send, struct_send, view_send}
use denote.Struct.Declared as struct
use Rattle.session_board.specs.contracts.shared.SharedBoard as shared
use Rattle.session_board.specs.contracts.shared.SharedBoard.TheInside as shared_inside
use Rattle.spec_core.proofs.Crossing.{simple}
use Rattle.board_core.proofs.Crossing.{board_send}

pub shared_send : IsSend shared.the_row
shared_send =
    view_send shared_inside.the_row _ _ _ _ (recorded_send (shared_inside.the_field).row _ _ (shared_inside.the_type).to_one
    (struct_send (struct.shape shared_inside.the_type) (
      board_send,
      (
        search simple depth 60 fits 20000,
        (
          search simple depth 60 fits 20000,
          (
            search simple depth 60 fits 20000,
            tt,
          ),
        ),
      ),
    )))
