use Rattle.std.proofs.Common.{◌≡◌, ◌++◌, map, length, take}
use Rattle.static_processes.specs.Processes.{one_after_another, item_entries}
use Rattle.static_processes.specs.Views.{entry_of}
use Rattle.static_processes.proofs.table.+processes.Given as goal

abbrev pub invariant-put_items-loop-item : goal.invariant-put_items-loop-item
invariant-put_items-loop-item l = map entry_of l.table.items ≡ map entry_of l.initial.table.items
    ++ one_after_another (map item_entries (take l.item-index l.items)) (length (map entry_of l.initial.table.items)) l.around
