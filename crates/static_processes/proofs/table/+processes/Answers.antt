use Rattle.std.proofs.Common.{map}
use Rattle.static_processes.specs.Views.{entry_of}
use Rattle.static_processes.proofs.Numbered.{items_next}
use Rattle.static_processes.proofs.table.+processes.Goals as goal

pub put_items-loop-item-preserved : goal.put_items-loop-item-preserved
put_items-loop-item-preserved t c = items_next (map entry_of c.args.table.now.items) (map entry_of c.loop-item.table.items)
    (map entry_of c.put_item.new.table.items) c.args.items.now c.loop-item.item-index c.item-item.result c.args.around.now
    c.loop-item-test.true c.item-item.is c.loop-item.invariant c.in_ok-put_item.ensures
