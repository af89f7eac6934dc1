use Rattle.std.proofs.Common.{subst}
use Rattle.board_record.specs.Faults.{ExplainsPend}
use Rattle.board_core.specs.Views.{program, state}
use Rattle.simulator_steps.proofs.Pending.{none_has}
use Rattle.simulator_steps.proofs.asking.pend.Goals as goal

pub unreachable-requires-in-Err-AlreadyPending : goal.unreachable-requires-in-Err-AlreadyPending
unreachable-requires-in-Err-AlreadyPending c =
    let b = c.args.board.now in
    let fault =
    subst (ExplainsPend (program b) (state b) 1 c.args.offer.now) c.in-Err-AlreadyPending.field-0-is c.in-Err-AlreadyPending.ensures.fault
    in
    none_has (state b) c.requires.rests.1 fault.1
