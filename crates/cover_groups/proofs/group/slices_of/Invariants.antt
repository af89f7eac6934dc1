use Rattle.std.proofs.Common.{◌≡◌, map, take}
use Rattle.cover_groups.specs.Groups.{premises_at, premises_of}
use Rattle.cover_groups.proofs.group.slices_of.Given as goal

abbrev pub invariant-loop-list : goal.invariant-loop-list
invariant-loop-list l = map premises_at l.all.items ≡ map premises_of (take l.list-index l.lists)
