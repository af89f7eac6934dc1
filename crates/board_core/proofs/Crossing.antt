-- A board may go to other threads.
use denote.Param.Send.{IsSend, recorded_send, struct_send, view_send}
use denote.Struct.Declared as struct
use Rattle.board_core.specs.contracts.board.Board as board
use Rattle.board_core.specs.contracts.board.Board.TheInside as board_inside
use Rattle.spec_core.proofs.Crossing.{simple, term_send}
use Rattle.rule_model.proofs.Crossing.{rules_send}
use Rattle.board_record.proofs.Crossing.{record_send}
use Rattle.offer_index.proofs.Crossing.{index_send}

pub board_send : IsSend board.the_row
board_send =
    view_send board_inside.the_row _ _ _ _ (recorded_send (board_inside.the_field).row _ _ (board_inside.the_type).to_one
    (struct_send (struct.shape board_inside.the_type) (
      record_send,
      (
        search simple depth 60 fits 20000,
        (
          search simple depth 60 fits 20000,
          (
            search simple depth 60 fits 20000,
            (
              search (rules_send, simple) depth 60 fits 20000,
              (
                search (rules_send, simple) depth 60 fits 20000,
                (
                  search (term_send, simple) depth 60 fits 20000,
                  (
                    search (index_send, simple) depth 60 fits 20000,
                    tt,
                  ),
                ),
              ),
            ),
          ),
        ),
      ),
    )))
