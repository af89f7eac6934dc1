use Rattle.std.proofs.Common.{map, []}
use Rattle.type_contents.specs.Lists.{with_one}
use Rattle.type_contents.specs.Items.{is_same_described}
use Rattle.type_contents.specs.Views.{described_of, brought_at}
use Rattle.type_contents.proofs.Folds.{lists_next}
use Rattle.type_contents.proofs.flat.all_items.Goals as goal

pub loop-one-preserved : goal.loop-one-preserved
loop-one-preserved c = record {
  all = lists_next (with_one is_same_described) brought_at [] (map described_of c.loop-one.all.items) (map described_of c.add_brought.new.all.items) c.args.brought.now c.loop-one.one-index c.one-item.result c.loop-one-test.true c.one-item.is c.loop-one.invariant.all c.in_ok-add_brought.ensures.all;
  found = c.in_ok-add_brought.ensures.found;
}
