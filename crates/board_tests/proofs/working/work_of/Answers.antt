use Rattle.std.proofs.Common.{sym, subst}
use Rattle.spec_core.specs.Code.{program_of}
use Rattle.sort_windows.specs.Found.{AreBySorts}
use Rattle.board_tests.proofs.working.work_of.Goals as goal

pub expand_node-requires-clause-rows : goal.expand_node-requires-clause-rows
expand_node-requires-clause-rows c =
    let v = c.args.board.now in (
      v.settings.values,
      subst (AreBySorts (program_of c.prepared.result.checked.now).theory v.settings.values) (sym c.windows.ensures.windows)
          (subst (λ k. AreBySorts (program_of k).theory v.settings.values v.windows) (sym c.prepared.ensures.checked) c.windows.ensures.rows),
    )
