use Rattle.std.proofs.Common.{get_or, arith}
use Rattle.equation_sets.proofs.Walks.{bound_next}
use Rattle.equation_sets.proofs.numbers.bound_of.Goals as goal
use Rattle.equation_sets.proofs.numbers.bound_of.Goals.{then-bound-needed, else-bound-needed}

pub loop-x-preserved : goal.loop-x-preserved
loop-x-preserved c = elim c.if-bound-needed.branch [
  | then-bound-needed w ↦ bound_next c.loop-x.bound c.if-bound-needed.bound c.args.all.now c.loop-x.x-index (omega arith) (omega arith)
      c.loop-x-test.true c.loop-x.invariant
  | else-bound-needed w ↦ bound_next c.loop-x.bound c.if-bound-needed.bound c.args.all.now c.loop-x.x-index (omega arith) (omega arith)
      c.loop-x-test.true c.loop-x.invariant
]
