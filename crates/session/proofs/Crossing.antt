-- Passes may go to other threads, and a session may be shared among them.
use denote.RattleType.{RattleType}
use denote.Param.Send.{IsSend, IsSync, recorded_send, recorded_sync, struct_send, struct_sync, view_send, view_sync}
use denote.Param.Send.{whole-keyless}
use denote.Struct.Declared as struct
use Rattle.atomic_table.proofs.shared.Seat.TheSendSync as seat
use Rattle.atomic_table.specs.contracts.shared.Seat as seat_row
use Rattle.atomic_table.proofs.shared.Shared.TheSendSync as table
use Rattle.atomic_table.proofs.send_lease.SendLease.TheSendSync as lease
use Rattle.session.specs.contracts.pass.Pass as pass
use Rattle.session.specs.contracts.pass.Pass.TheInside as pass_inside
use Rattle.session.specs.contracts.work_pass.WorkPass as work_pass
use Rattle.session.specs.contracts.work_pass.WorkPass.TheInside as work_pass_inside
use Rattle.session.specs.contracts.session.Session as session
use Rattle.session.specs.contracts.session.Session.TheInside as session_inside
use Rattle.spec_core.proofs.Crossing.{checked_sync, simple}
use Rattle.session_board.proofs.Crossing.{shared_send}

pub pass_send : IsSend pass.the_row
pass_send =
    view_send pass_inside.the_row _ _ _ _ (recorded_send (pass_inside.the_field).row _ _ (pass_inside.the_type).to_one
    (struct_send (struct.shape pass_inside.the_type) (
      search (shared_send, seat.the_send, simple) depth 60 fits 20000,
      (
        search simple depth 60 fits 20000,
        (
          search simple depth 60 fits 20000,
          tt,
        ),
      ),
    )))

pub work_pass_send : IsSend work_pass.the_row
work_pass_send =
    view_send work_pass_inside.the_row _ _ _ _ (recorded_send (work_pass_inside.the_field).row _ _ (work_pass_inside.the_type).to_one
    (struct_send (struct.shape work_pass_inside.the_type) (
      search (shared_send, seat.the_send, simple) depth 60 fits 20000,
      (
        search simple depth 60 fits 20000,
        (
          search simple depth 60 fits 20000,
          (
            search simple depth 60 fits 20000,
            tt,
          ),
        ),
      ),
    )))

pub seat_sync : (S V : RattleType) → IsSend S → IsSync (seat_row.the_row S V)
seat_sync S V s = record { shared = λ x b o κ q. whole-keyless _ _ (seat.the_send S V s).owned q x b o }

pub session_sync : IsSync session.the_row
session_sync =
    view_sync session_inside.the_row _ _ _ _ (recorded_sync (session_inside.the_field).row _ _ (session_inside.the_type).to_one
    (struct_sync (struct.shape session_inside.the_type) (
      search (shared_send, table.the_sync, lease.the_sync, simple) depth 60 fits 20000,
      (
        search simple depth 60 fits 20000,
        (
          checked_sync,
          (
            search simple depth 60 fits 20000,
            (
              search simple depth 60 fits 20000,
              (
                search simple depth 60 fits 20000,
                (
                  search simple depth 60 fits 20000,
                  (
                    search (seat_sync, shared_send, simple) depth 60 fits 20000,
                    tt,
                  ),
                ),
              ),
            ),
          ),
        ),
      ),
    )))
