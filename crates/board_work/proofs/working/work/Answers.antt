use Rattle.std.proofs.lemmas.Result.{on_ok_weaker}
use Rattle.candidates.specs.Models.{job_of}
use Rattle.board_work.proofs.Taking.{done_by, needed_is_free}
use Rattle.board_work.proofs.working.work.Goals as goal

pub returns-clause-done : goal.returns-clause-done
returns-clause-done c =
    let v = c.args.board.now in
    let job = job_of c.args.job.task in
    on_ok_weaker c.hand_in.result
    (λ taken has needed. done_by v c.hand_in.new.board job c.in_ok-outcome.outcome needed (taken (has, needed_is_free v job needed)))
    c.hand_in.ensures.taken
