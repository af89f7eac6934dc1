use Rattle.std.proofs.Common.{map}
use Rattle.type_contents.specs.Lists.{with_one}
use Rattle.type_contents.specs.Items.{is_same_described}
use Rattle.type_contents.specs.Views.{described_of}
use Rattle.type_contents.proofs.Folds.{folded_next}
use Rattle.type_contents.proofs.flat.add_firsts.Goals as goal

pub loop-one-preserved : goal.loop-one-preserved
loop-one-preserved c = record {
  all = folded_next (with_one is_same_described) described_of (map described_of c.args.all.now.items) (map described_of c.loop-one.all.items) (map described_of c.add_new.new.all.items) c.args.entries.now c.loop-one.one-index c.one-item.result c.loop-one-test.true c.one-item.is c.loop-one.invariant.all c.in_ok-add_new.ensures.all;
  found = c.in_ok-add_new.ensures.found;
}
