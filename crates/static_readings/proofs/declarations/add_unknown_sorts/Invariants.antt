use Rattle.std.proofs.Common.{◌≡◌, ◌++◌, take}
use Rattle.std.specs.List.{flat_map}
use Rattle.sort_overloads.specs.Refused.{unknown_sort}
use Rattle.static_readings.proofs.declarations.add_unknown_sorts.Given as goal

abbrev pub invariant-loop-declaration : goal.invariant-loop-declaration
invariant-loop-declaration l = l.refusals.items ≡ l.initial.refusals.items ++ flat_map (λ d. unknown_sort l.site.context d.sort) (take l.declaration-index l.declared)
