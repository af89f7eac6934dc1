use Rattle.std.proofs.Common.{nat_eq, Some, None, []}
use Rattle.std.specs.Prelude.{if◌then◌else◌}
use Rattle.type_cycles.proofs.Firsts.{ranged_next}
use Rattle.type_cycles.proofs.ways.first_ways.Goals as goal

pub loop-from-preserved : goal.loop-from-preserved
loop-from-preserved c = ranged_next (λ k. if nat_eq k c.args.to then Some [] else None) _ _ _ c.loop-from.from c.loop-from.invariant c.in_ok-push.ensures.items c.no_step.ensures
