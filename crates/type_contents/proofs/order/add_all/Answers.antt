use Rattle.std.proofs.Common.{map}
use Rattle.type_contents.specs.Lists.{with_one}
use Rattle.type_contents.specs.Items.{is_in, is_same_described}
use Rattle.type_contents.specs.Views.{described_of, items_at}
use Rattle.type_contents.proofs.Folds.{filtered_next}
use Rattle.type_contents.proofs.order.add_all.Goals as goal

pub loop-one-preserved : goal.loop-one-preserved
loop-one-preserved c = filtered_next (with_one is_same_described) (λ d. is_in (items_at c.args.table.now c.args.items.now) d.item) described_of (map described_of c.args.all.now.items) (map described_of c.loop-one.all.items) (map described_of c.add_one.new.all.items) c.args.entries.now c.loop-one.one-index c.one-item.result c.loop-one-test.true c.one-item.is c.loop-one.invariant c.in_ok-add_one.ensures
