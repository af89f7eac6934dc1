use Rattle.std.proofs.Common.{◌≡◌, map}
use Rattle.candidate_composites.specs.Contexts.{down_by}
use Rattle.candidate_composites.specs.Known.{step_of}
use Rattle.candidate_composites.proofs.context.put_steps.Given as goal

abbrev pub invariant-loop-turn : goal.invariant-loop-turn
invariant-loop-turn l = map step_of l.steps.items ≡ down_by (step_of l.step) l._turn (map step_of l.fn.steps.items)
