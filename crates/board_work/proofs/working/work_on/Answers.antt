use Rattle.std.proofs.Common.{subst, sym}
use Rattle.spec_core.specs.Code.{program_of}
use Rattle.spec_core.specs.Lists.{Each}
use Rattle.candidates.specs.Models.{job_of}
use Rattle.board_core.specs.Working.{IsOfValues}
use Rattle.board_work.proofs.Handing.{handed_twice}
use Rattle.board_work.proofs.Keeping.{done_is_over, on_ok, stays_over}
use Rattle.board_work.proofs.working.work_on.Goals as goal

pub try_those-requires : goal.try_those-requires
try_those-requires c = record {
  values = subst (λ k. Each (IsOfValues (program_of k)) c.args.others.items) (sym c.work.ensures.handed.session.0.0.0) c.requires.others;
}

pub returns-then-stopped-clause-done : goal.returns-then-stopped-clause-done
returns-then-stopped-clause-done c = λ origin needed.
    done_is_over c.args.board.now c.work.new.board (job_of c.args.job.task) (c.in_ok-work.ensures.done origin needed)

pub returns : goal.returns
returns c =
    let v = c.args.board.now in
    let u = c.work.new.board in
    let job = job_of c.args.job.task in
    record {
      handed = handed_twice v u c.try_those.new.board c.work.ensures.handed c.try_those.ensures.handed;
      done =
          on_ok c.try_those.result (λ origin needed.
          stays_over u c.try_those.new.board job (done_is_over v u job (c.in_ok-work.ensures.done origin needed)) c.try_those.ensures.handed);
    }
