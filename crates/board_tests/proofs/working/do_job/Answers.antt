use Rattle.std.proofs.Common.{◌≡◌, IfSome, subst, sym}
use Rattle.spec_core.specs.Code.{program_of}
use Rattle.board_core.specs.Working.{IsHandedOut, IsOfValues}
use Rattle.board_tests.proofs.working.do_job.Goals as goal

pub work-requires : goal.work-requires
work-requires c =
    let v = c.args.board.now in
    let d = c.take_job.new.self in
    let t = c.in_ok-take_job.ensures in
    let out = subst (λ o. IfSome o (λ j. IsHandedOut v d j × (d.stop ≡ v.stop))) c.in-Some.is t.job in
    record { values = subst (λ k. IsOfValues (program_of k) c.in-Some.job) (sym t.session.0.0.0) out.0.values }
