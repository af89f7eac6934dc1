use Rattle.std.proofs.Common.{rules, ◌≡◌, ◌+◌, take}
use Rattle.spec_core.proofs.Lists.{take_next}
use Rattle.log_states.proofs.Waiting.{without_next}
use Rattle.log_states.proofs.pending.without.Goals as goal

pub loop-waiting-preserved : goal.loop-waiting-preserved
loop-waiting-preserved c =
    without_next (c.args.client, c.args.number) (take c.loop-waiting.waiting-index c.args.all.now) (take (c.loop-waiting.waiting-index + 1) c.args.all.now)
    c.waiting-item.result _ _ (take_next c.args.all.now c.loop-waiting.waiting-index c.waiting-item.result (search rules) (search rules)) c.loop-waiting.invariant (search rules)
