use Rattle.std.proofs.Common.{◌+◌, ap, arith}
use Rattle.trace_text.proofs.Counting.{actions_more}
use Rattle.trace_text.proofs.numbers.actions_in.Goals as goal

pub loop-entry-preserved : goal.loop-entry-preserved
loop-entry-preserved c = (
  actions_more c.args.entries.now c.loop-entry.entry-index c.entry-item.result c.loop-entry.actions
      (c.loop-entry.actions + c.actions_of-actions.result) c.loop-entry-test.true c.entry-item.is c.loop-entry.invariant.0
      (ap (λ n. c.loop-entry.actions + n) c.actions_of-actions.ensures.count),
  omega (arith, c.loop-entry.invariant.1, c.actions_of-actions.ensures.few),
)
