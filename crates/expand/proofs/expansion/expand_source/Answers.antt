use Rattle.std.proofs.Common.{map, sym, subst}
use Rattle.spec_core.specs.Code.{relabelling_of}
use Rattle.sort_windows.specs.Found.{AreBySorts}
use Rattle.node_trees.specs.Origins.{relabelled_by, scoped}
use Rattle.match_code.specs.Prepared.{program_in}
use Rattle.expand.specs.Expansions.{IsStop}
use Rattle.symbolic_rules.specs.Tables.{windows_in}
use Rattle.expand.proofs.Top.{table_windows, stops_at}
use Rattle.expand.proofs.expansion.expand_source.Goals as goal

pub composites_at-requires-clause-rows : goal.composites_at-requires-clause-rows
composites_at-requires-clause-rows c = (
  c.args.settings.now.values,
  subst (AreBySorts (program_in c.args.prepared.now).theory c.args.settings.now.values) (sym c.deref.ensures.value)
      c.in_ok-windows.ensures.windows,
)

pub returns-in-Err-clause-stop : goal.returns-in-Err-clause-stop
returns-in-Err-clause-stop c =
    let p = program_in c.args.prepared.now in
    let table = c.in_ok-windows.windows.items in
    let b = relabelled_by (map relabelling_of c.args.pairs.now) (scoped p c.args.node c.args.values.now) in
    stops_at p c.args.settings.now.values (windows_in table) b c.args.settings.now.budget c.in-Err.stop
    (table_windows p.theory c.args.settings.now.values table c.in_ok-windows.ensures.windows c.in_ok-windows.ensures.all)
    (subst (λ z. IsStop p (windows_in z) b c.args.settings.now.budget c.in-Err.stop) c.deref.ensures.value c.in-Err.ensures.stop)

pub returns-in-Ok-clause-windows : goal.returns-in-Ok-clause-windows
returns-in-Ok-clause-windows c =
    table_windows (program_in c.args.prepared.now).theory c.args.settings.now.values c.in_ok-windows.windows.items
    c.in_ok-windows.ensures.windows c.in_ok-windows.ensures.all
