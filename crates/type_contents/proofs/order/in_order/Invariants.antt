use Rattle.std.proofs.Common.{◌≡◌, map, []}
use Rattle.std.specs.List.{fold, flat_map, range_with_len}
use Rattle.type_contents.specs.Lists.{with_one}
use Rattle.type_contents.specs.Items.{is_same_described}
use Rattle.type_contents.specs.Numbering as numbering
use Rattle.type_contents.specs.Views.{described_of, items_at, brought_at}
use Rattle.type_contents.proofs.order.in_order.Given as goal

abbrev pub invariant-loop-number : goal.invariant-loop-number
invariant-loop-number l = map described_of l.all.items ≡ fold (with_one is_same_described) [] (flat_map (numbering.brought_by (map brought_at l.found) l.among (items_at l.table l.items)) (range_with_len 0 l.number))
