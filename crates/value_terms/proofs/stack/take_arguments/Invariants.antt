use Rattle.std.proofs.Common.{◌≡◌, ◌++◌, length, reverse}
use Rattle.value_terms.proofs.stack.take_arguments.Given as goal

abbrev pub invariant-loop-turn : goal.invariant-loop-turn
invariant-loop-turn l = (l.initial.stack.items ≡ l.stack.items ++ reverse l.args.items) × (length l.args.items ≡ l._turn)
