use Rattle.std.proofs.Common.{ℕ, ◌≡◌, ◌<◌, true, get_or}
use Rattle.type_cycles.specs.Ends.{is_marked}
use Rattle.type_cycles.proofs.ends.are_marked.Given as goal

abbrev pub invariant-loop-number : goal.invariant-loop-number
invariant-loop-number l = (i d : ℕ) → i < l.number-index → is_marked l.marks (get_or l.types i d) ≡ true
