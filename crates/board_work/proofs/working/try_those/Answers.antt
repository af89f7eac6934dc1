use Rattle.std.proofs.Common.{[], ◌∷◌, subst, sym}
use Rattle.spec_core.specs.Code.{program_of}
use Rattle.spec_core.specs.Lists.{Each}
use Rattle.spec_core.proofs.Lists.{each_left}
use Rattle.board_core.specs.Views.{program}
use Rattle.board_core.specs.Working.{IsOfValues}
use Rattle.board_work.proofs.Handing.{handed_twice}
use Rattle.board_work.proofs.working.try_those.Goals as goal

pub loop-job-preserved-in-Continue-1 : goal.loop-job-preserved-in-Continue-1
loop-job-preserved-in-Continue-1 c =
    let v = c.loop-job.board in
    let u = c.try_work.new.board in
    let left = each_left (IsOfValues (program v)) c.pop.new.self.items _ (subst (Each (IsOfValues (program v))) c.pop.ensures.items c.loop-job.invariant.values) in
    record {
      values = subst (λ k. Each (IsOfValues (program_of k)) c.pop.new.self.items) (sym c.try_work.ensures.handed.session.0.0.0) left;
      handed = handed_twice c.args.board.now v u c.loop-job.invariant.handed c.try_work.ensures.handed;
    }
