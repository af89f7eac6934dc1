use Rattle.std.proofs.Common.{◌≡◌, length}
use Rattle.static_check.proofs.assembly.places.Given as goal

abbrev pub invariant-loop-number : goal.invariant-loop-number
invariant-loop-number l = length l.code.items ≡ l._number
