use Rattle.std.proofs.Common.{◌∙◌, subst}
use Rattle.board_record.specs.Faults.{ExplainsLeave}
use Rattle.board_core.specs.Views.{state}
use Rattle.client_runs.proofs.Running.{has_left, onward}
use Rattle.client_runs.proofs.Settled.{idle_on}
use Rattle.client_runs.proofs.run.leave.Goals as goal

pub unreachable-requires-in-Err-Pending : goal.unreachable-requires-in-Err-Pending
unreachable-requires-in-Err-Pending c =
    let m = c.settle_all.new.board in
    let h = c.in_ok-settle_all.ensures in
    idle_on m c.log_is_a_derivation.ensures.ready h.settled (h.session.1 ∙ c.requires.open)
    (subst (ExplainsLeave (state m) 1) c.in-Err-Pending.field-0-is c.in-Err-Pending.ensures.fault)

pub returns-in-Ok-clause-continues : goal.returns-in-Ok-clause-continues
returns-in-Ok-clause-continues c =
    let m = c.settle_all.new.board in
    let new = c.leave.new.self in
    let h = c.in_ok-settle_all.ensures in
    let l = c.in-Ok.ensures in
    onward c.args.board.now m new h.continues (has_left m new l.setting h.settled l.stop l.may l.log l.state)
