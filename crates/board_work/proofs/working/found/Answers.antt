use Rattle.std.proofs.Common.{◌≡◌, subst, sym}
use Rattle.sort_windows.specs.Found.{AreBySorts}
use Rattle.board_core.specs.Working.{IsOfValues}
use Rattle.spec_core.specs.Code.{program_of}
use Rattle.board_work.proofs.working.found.Goals as goal

pub perform-requires-clause-rows : goal.perform-requires-clause-rows
perform-requires-clause-rows c =
    let v = c.args.board.now in (
      v.settings.values,
      subst (AreBySorts (program_of c.prepared.result.checked.now).theory v.settings.values) (sym c.windows.ensures.windows)
          (subst (λ k. AreBySorts (program_of k).theory v.settings.values v.windows) (sym c.prepared.ensures.checked) c.windows.ensures.rows),
    )

pub perform-requires-clause-values : goal.perform-requires-clause-values
perform-requires-clause-values c =
    subst (λ k. IsOfValues (program_of k) c.args.job.now) (sym c.prepared.ensures.checked) c.requires.values
