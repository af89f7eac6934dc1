use Rattle.std.proofs.Common.{◌≡◌, ◌++◌, take, map}
use Rattle.std.specs.List.{flat_map}
use Rattle.type_copies.specs.UnknownSorts.{unknown_sort}
use Rattle.type_copies.specs.Views.{item_at}
use Rattle.type_copies.proofs.sorts.add_each_unknown.Given as goal

abbrev pub invariant-loop-name : goal.invariant-loop-name
invariant-loop-name l = l.refusals.items ≡ l.initial.refusals.items ++ flat_map (unknown_sort (map item_at l.items)) (map (λ t. t.now) (take l.name-index l.names))
