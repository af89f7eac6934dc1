use Rattle.std.proofs.Common.{ℕ, ◌≡◌, ◌<◌, None, get_or}
use Rattle.type_cycles.proofs.ways.are_none.Given as goal

abbrev pub invariant-loop-way : goal.invariant-loop-way
invariant-loop-way l = (k : ℕ) → k < l.way-index → get_or l.ways k None ≡ None
