use Rattle.std.proofs.Common.{◌≡◌, ◌++◌, take, map}
use Rattle.std.specs.List.{flat_map}
use Rattle.type_copies.specs.UnknownSorts.{operation_sorts}
use Rattle.type_copies.proofs.sorts.add_sorts_of.Given as goal

abbrev pub invariant-loop-declaration : goal.invariant-loop-declaration
invariant-loop-declaration l = map (λ t. t.now) l.all.items ≡ map (λ t. t.now) l.initial.all.items ++ flat_map operation_sorts (take l.declaration-index l.declarations)
