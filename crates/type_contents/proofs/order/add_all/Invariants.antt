use Rattle.std.proofs.Common.{◌≡◌, map, take}
use Rattle.std.specs.List.{filter, fold}
use Rattle.type_contents.specs.Lists.{with_one}
use Rattle.type_contents.specs.Items.{is_in, is_same_described}
use Rattle.type_contents.specs.Views.{described_of, items_at}
use Rattle.type_contents.proofs.order.add_all.Given as goal

abbrev pub invariant-loop-one : goal.invariant-loop-one
invariant-loop-one l = map described_of l.all.items ≡ fold (with_one is_same_described) (map described_of l.initial.all.items) (filter (λ d. is_in (items_at l.table l.items) d.item) (map described_of (take l.one-index l.entries)))
