use Rattle.std.proofs.Common.{map}
use Rattle.type_contents.specs.Views.{described_of}
use Rattle.type_names.proofs.Gathered.{refused_next}
use Rattle.type_copies.specs.BadActuals.{bad_actual}
use Rattle.type_copies.specs.Views.{item_at}
use Rattle.type_copies.proofs.actuals.add_bad_actuals.Goals as goal

pub loop-declared-preserved : goal.loop-declared-preserved
loop-declared-preserved c = refused_next (bad_actual c.args.place c.args.pairs.now (map item_at c.args.formals.now) (map item_at c.args.actual.now)) described_of _ _ _ c.args.all.now c.loop-declared.declared-index _ c.loop-declared-test.true c.declared-item.is c.loop-declared.invariant c.in_ok-add_bad_actual.ensures
