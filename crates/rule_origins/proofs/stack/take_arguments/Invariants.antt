use Rattle.std.proofs.Common.{◌≡◌, ◌++◌, length, map}
use Rattle.spec_core.specs.Terms.{term_of}
use Rattle.rule_origins.specs.Stacks.{from_top}
use Rattle.rule_origins.proofs.stack.take_arguments.Given as goal

abbrev pub invariant-loop-turn : goal.invariant-loop-turn
invariant-loop-turn l =
    (from_top l.initial.stack.items ≡ map term_of l.args.items ++ from_top l.stack.items) × (length l.args.items ≡ l._turn)
