use Rattle.std.proofs.Common.{◌≡◌, map, take}
use Rattle.spec_core.specs.Numbers.{sort_number}
use Rattle.static_presentation.specs.Moved as moved
use Rattle.static_presentation.proofs.moved.moved_sorts.Given as goal

abbrev pub invariant-loop-sort : goal.invariant-loop-sort
invariant-loop-sort l = map sort_number l.all.items ≡ map (moved.number_at l.sorts) (map sort_number (take l.sort-index l.own))
