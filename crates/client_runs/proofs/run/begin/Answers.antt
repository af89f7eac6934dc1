use Rattle.std.proofs.Common.{subst}
use Rattle.board_record.specs.Records.{IsSession}
use Rattle.board_core.specs.Views.{program, events, state}
use Rattle.client_runs.proofs.Running.{begun}
use Rattle.client_runs.proofs.run.begin.Goals as goal

pub returns-clause-begun : goal.returns-clause-begun
returns-clause-begun c =
    let v = c.in_ok-board.board in
    let h = c.in_ok-board.ensures in
    begun v c.args.clients h.stop h.log
    (subst (λ n. IsSession (program v) n (events v) (state v)) h.clients c.log_is_a_derivation.ensures.session)
