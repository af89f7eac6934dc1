use Rattle.std.proofs.Common.{◌≡◌, ℕ, ◌<◌, get_or, false, nat_eq}
use Rattle.static_equations.proofs.numbering.place_among.Given as goal

abbrev pub invariant-loop-i : goal.invariant-loop-i
invariant-loop-i l = (k : ℕ) → k < l.i → nat_eq l.number (get_or l.numbers k 0) ≡ false
