use Rattle.std.proofs.Common.{map, refl}
use Rattle.spec_core.proofs.Lists.{untrue}
use Rattle.spec_core.specs.Terms.{term_of, terms}
use Rattle.spec_core.specs.Theories.{theory_of}
use Rattle.path_order.proofs.Walks.{below_at, below_more}
use Rattle.path_order.proofs.below.+below.Goals as goal

pub are_below-returns-then-not-is_below : goal.are_below-returns-then-not-is_below
are_below-returns-then-not-is_below t c = (
  λ h. absurd (untrue h),
  λ h. c.if-not-is_below.ensures.1 (below_at (theory_of c.args.algebra.now) c.args.level.now.found.keys (terms (map term_of c.args.args.now)) c.args.all.now c.loop-term.term-index c.term-item.result c.loop-term-test.true c.term-item.is h),
)

pub are_below-loop-term-preserved : goal.are_below-loop-term-preserved
are_below-loop-term-preserved t c =
    below_more (theory_of c.args.algebra.now) c.args.level.now.found.keys (terms (map term_of c.args.args.now)) c.args.all.now c.loop-term.term-index c.term-item.result c.loop-term-test.true c.term-item.is c.loop-term.invariant (c.if-not-is_below.ensures.0 refl)
