use Rattle.std.proofs.lemmas.Result.{IfOk-weaker}
use Rattle.board_work.proofs.Worked.{no_job_like}
use Rattle.board_work.proofs.settling.work_if_expected.Goals as goal

pub returns-then-expects_job-clause-none : goal.returns-then-expects_job-clause-none
returns-then-expects_job-clause-none c =
    IfOk-weaker c.work_next.result _ _ (λ worked h none. no_job_like c.args.board.now c.work_next.new.board (h none)) c.work_next.ensures.none
