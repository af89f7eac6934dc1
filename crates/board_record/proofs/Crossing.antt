-- The record of a session may go to other threads.
use denote.Param.Send.{IsSend, recorded_send, struct_send, view_send}
use denote.Struct.Declared as struct
use Rattle.board_record.specs.contracts.ready_act.ReadyAct as ready_act
use Rattle.board_record.specs.contracts.record.Record as record'
use Rattle.board_record.specs.contracts.record.Record.TheInside as record_inside
use Rattle.spec_core.proofs.Crossing.{checked_send, simple, term_send}
use Rattle.rule_model.proofs.Crossing.{rules_send}
use Rattle.board_tree.proofs.Crossing.{tree_send}
use Rattle.log_states.proofs.Crossing.{state_send}

pub ready_act_send : IsSend ready_act.the_row
ready_act_send = search (state_send, rules_send, term_send, simple) depth 60 fits 20000

pub record_send : IsSend record'.the_row
record_send =
    view_send record_inside.the_row _ _ _ _ (recorded_send (record_inside.the_field).row _ _ (record_inside.the_type).to_one
    (struct_send (struct.shape record_inside.the_type) (
      checked_send,
      (
        search simple depth 60 fits 20000,
        (
          search (term_send, rules_send, simple) depth 60 fits 20000,
          (
            state_send,
            (
              tree_send,
              (
                search (ready_act_send, simple) depth 60 fits 20000,
                tt,
              ),
            ),
          ),
        ),
      ),
    )))
