use Rattle.std.proofs.Common.{sym, subst}
use Rattle.spec_core.specs.Code.{Program, program_of}
use Rattle.sort_windows.specs.Found.{AreBySorts}
use Rattle.board_core.specs.Working.{IsOfValues}
use Rattle.session.specs.Sessions.{SessionView}
use Rattle.session.proofs.session.Session.do_job.Goals as goal

pub perform-requires-clause-rows : goal.perform-requires-clause-rows
perform-requires-clause-rows c =
    let rows = c.self.invariant.0.rows in (
      rows.0,
      subst (AreBySorts (program_of c.self.inside.checked).theory rows.0) (sym c.deref.ensures.value) rows.1,
    )

pub perform-requires-clause-values : goal.perform-requires-clause-values
perform-requires-clause-values c =
    let job = c.args.taken.now.job in
    subst (λ (p : Program). IsOfValues p job) (sym c.self.invariant.0.program_is)
    (subst (λ (s : SessionView). IsOfValues (program_of s.lock.fixed.checked) job) (sym c.self.view_is) c.requires.given)
