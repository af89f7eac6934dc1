use Rattle.std.proofs.Common.{map}
use Rattle.type_contents.specs.Contents.{no_content}
use Rattle.type_equation_copies.specs.Indexes.{item_at}
use Rattle.type_data.proofs.Lists.{of_data_next}
use Rattle.type_data.proofs.items.data_items.Goals as goal

pub loop-number-preserved : goal.loop-number-preserved
loop-number-preserved c = of_data_next (λ z. z.items) no_content c.args.formal.now c.args.contents.now c.loop-number.number _ (map item_at c.loop-number.all.items) (map item_at c.add_type.new.all.items) c.loop-number-test.true c.requires c.loop-number.invariant c.in_ok-add_type.ensures
