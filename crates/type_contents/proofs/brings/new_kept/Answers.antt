use Rattle.std.proofs.Common.{map}
use Rattle.type_contents.specs.Numbering as numbering
use Rattle.type_contents.specs.Views.{described_of, items_at, renaming_view}
use Rattle.type_contents.proofs.Lists.{gathered_next}
use Rattle.type_contents.proofs.brings.new_kept.Goals as goal

pub loop-one-preserved : goal.loop-one-preserved
loop-one-preserved c = gathered_next (numbering.new_kept (items_at c.args.table.now c.args.formals.now) (renaming_view c.args.renaming.now)) described_of (map described_of c.loop-one.all.items) (map described_of c.add_new_kept.new.all.items) c.args.entries.now c.loop-one.one-index c.one-item.result c.loop-one-test.true c.one-item.is c.loop-one.invariant c.in_ok-add_new_kept.ensures
