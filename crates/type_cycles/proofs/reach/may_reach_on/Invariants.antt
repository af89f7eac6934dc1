use Rattle.std.proofs.Common.{◌≡◌, length}
use Rattle.type_cycles.specs.Closed.{IsClosedBut}
use Rattle.type_cycles.proofs.reach.may_reach_on.Given as goal

abbrev pub invariant-loop-round : goal.invariant-loop-round
invariant-loop-round l = record {
  as_many : length l.marks.items ≡ length l.links;
  closed : IsClosedBut l.links l.from l.marks.items l.waiting.items;
}
