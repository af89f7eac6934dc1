use Rattle.spec_core.proofs.Lists.{flat_map_next}
use Rattle.type_contents.specs.Contents.{items_of}
use Rattle.flattening.proofs.copies.items_of_all.Goals as goal

pub loop-name-preserved : goal.loop-name-preserved
loop-name-preserved c = flat_map_next (items_of c.args.types.now c.args.contents.now) _ _ c.args.names.now c.loop-name.name-index c.name-item.result c.loop-name-test.true c.name-item.is c.loop-name.invariant c.in_ok-add_items_of.ensures
