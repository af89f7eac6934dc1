use Rattle.std.proofs.Common.{ℕ, ◌≡◌, ◌<◌, None}
use Rattle.type_cycles.specs.Cycles.{cycle_of}
use Rattle.type_cycles.proofs.cycle.first_cycle.Given as goal

abbrev pub invariant-loop-number : goal.invariant-loop-number
invariant-loop-number l = (k : ℕ) → k < l.number → cycle_of l.links k ≡ None
