use Rattle.std.proofs.Common.{◌≡◌}
use Rattle.static_presentation.proofs.signature.ascending.Given as goal

abbrev pub invariant-loop-number : goal.invariant-loop-number
invariant-loop-number l = l.numbers.items ≡ l.yielded
