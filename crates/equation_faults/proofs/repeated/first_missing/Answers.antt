use Rattle.std.proofs.Common.{take, drop, ◌+◌}
use Rattle.equation_sets.proofs.Members.{parted}
use Rattle.spec_core.proofs.Lists.{untrue, each_implied}
use Rattle.spec_core.specs.Lists.{IsOneOf}
use Rattle.equation_faults.proofs.repeated.first_missing.Goals as goal

pub returns-then-not-has-clause-first : goal.returns-then-not-has-clause-first
returns-then-not-has-clause-first c = record {
  before = take c.loop-x.x-index c.args.all.now;
  behind = drop (c.loop-x.x-index + 1) c.args.all.now;
  parts = parted c.args.all.now c.loop-x.x-index 0 c.loop-x-test.true;
  holds = λ o. untrue (c.if-not-has.ensures.decides.1 ((c.in_ok-set.ensures.exact _).1 o));
  none_before = each_implied (λ n. IsOneOf n c.args.there.now) (λ n. (IsOneOf n c.args.there.now → ⊥) → ⊥)
      (take c.loop-x.x-index c.args.all.now) (λ n o k. k o) c.loop-x.invariant;
}
