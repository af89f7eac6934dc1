use Rattle.std.proofs.Common.{◌<◌, length, subst, sym, get_or, ℕ}
use Rattle.spec_core.specs.Lists.{Each}
use Rattle.equation_sets.proofs.Walks.{exact_next, within_at}
use Rattle.equation_sets.proofs.numbers.set_of.Goals as goal

pub loop-x-preserved : goal.loop-x-preserved
loop-x-preserved c = record {
  within = subst (λ b. Each (λ n. n < b) c.args.all.now) (sym c.add.ensures.sized) c.loop-x.invariant.within;
  exact = exact_next c.loop-x.set c.add.new.self c.args.all.now c.loop-x.x-index c.loop-x-test.true c.add.ensures.kept c.add.ensures.only
      (c.add.ensures.added (within_at (length c.loop-x.set) c.args.all.now c.loop-x.x-index c.loop-x-test.true c.loop-x.invariant.within))
      c.loop-x.invariant.exact;
}
