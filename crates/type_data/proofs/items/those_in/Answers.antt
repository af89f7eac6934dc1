use Rattle.std.proofs.Common.{map}
use Rattle.type_contents.specs.Items.{is_in}
use Rattle.type_contents.specs.Views.{described_of}
use Rattle.type_data.proofs.Lists.{kept_next}
use Rattle.type_data.proofs.items.those_in.Goals as goal

pub loop-one-preserved : goal.loop-one-preserved
loop-one-preserved c = λ among h. kept_next (λ d. is_in among d.item) described_of (map described_of c.loop-one.some.items) (map described_of c.add_if_in.new.some.items) c.args.all.now c.loop-one.one-index c.one-item.result c.loop-one-test.true c.one-item.is (c.loop-one.invariant among h) (c.in_ok-add_if_in.ensures among h)
