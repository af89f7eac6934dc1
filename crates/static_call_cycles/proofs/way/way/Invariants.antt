use Rattle.std.proofs.Common.{ℕ, ◌≡◌, ◌<◌, None}
use Rattle.std.specs.List.{slice_index_or}
use Rattle.type_cycles.specs.Cycles.{ways_to}
use Rattle.static_call_cycles.proofs.way.way.Given as goal

abbrev pub invariant-loop-steps : goal.invariant-loop-steps
invariant-loop-steps l = record {
  ways : l.ways.items ≡ ways_to l.links l.to l._steps;
  none : (n : ℕ) → n < l._steps → slice_index_or (ways_to l.links l.to n) l.from None ≡ None;
}
