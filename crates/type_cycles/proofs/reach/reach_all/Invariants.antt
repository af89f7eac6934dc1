use Rattle.std.proofs.Common.{◌≡◌, length, take}
use Rattle.type_cycles.specs.Closed.{Marks}
use Rattle.type_cycles.proofs.reach.reach_all.Given as goal

abbrev pub invariant-loop-number : goal.invariant-loop-number
invariant-loop-number l = record {
  as_many : length l.marks.items ≡ length l.links;
  marks : Marks l.links (take l.number-index l.types) l.initial.marks.items l.marks.items l.waiting.items;
}
