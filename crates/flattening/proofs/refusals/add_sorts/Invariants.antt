use Rattle.std.proofs.Common.{◌≡◌, ◌++◌, take}
use Rattle.std.specs.List.{flat_map, zip}
use Rattle.type_copies.specs.UnknownSorts.{unknown_sorts}
use Rattle.flattening.proofs.refusals.add_sorts.Given as goal

abbrev pub invariant-loop-number : goal.invariant-loop-number
invariant-loop-number l = l.refusals.items ≡ l.initial.refusals.items ++ flat_map (λ e. unknown_sorts e.1.items e.0) (take l.number (zip l.types l.contents))
