-- What is left is no deeper than what was to be let go.
use Rattle.std.specs.Prelude.{◌≤◌}
use Rattle.static_constructs.specs.declared.construct.Construct.TheViews.{size-Construct}
use Rattle.static_constructs.proofs.construct.Construct.+drop.Given as goal

abbrev pub invariant-loop-self : goal.invariant-loop-self
invariant-loop-self l = size-Construct l.self ≤ size-Construct l.initial.self
