use Rattle.std.proofs.Common.{sym, subst}
use Rattle.spec_core.specs.Code.{program_of}
use Rattle.sort_windows.specs.Found.{AreBySorts}
use Rattle.tree_tests.proofs.program.expanded.Goals as goal

pub expand_node-requires-clause-rows : goal.expand_node-requires-clause-rows
expand_node-requires-clause-rows c = (
  2,
  subst (AreBySorts (program_of c.args.checked.now).theory 2) (sym c.deref.ensures.value) c.in_ok-shown.ensures.windows,
)
