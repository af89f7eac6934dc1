use Rattle.std.proofs.Common.{refl}
use Rattle.spec_core.proofs.Lists.{untrue}
use Rattle.spec_core.specs.Theories.{theory_of}
use Rattle.equation_faults.proofs.Walks.{patterns_at, patterns_next}
use Rattle.equation_faults.proofs.patterns.+patterns.Goals as goal

pub are_patterns-returns-then-not-is_pattern : goal.are_patterns-returns-then-not-is_pattern
are_patterns-returns-then-not-is_pattern t c = (
  λ h. absurd (untrue h),
  λ h. c.if-not-is_pattern.ensures.1
      (patterns_at (theory_of c.args.algebra.now) c.args.all.now c.loop-term.term-index c.term-item.result c.loop-term-test.true c.term-item.is h),
)

pub are_patterns-loop-term-preserved : goal.are_patterns-loop-term-preserved
are_patterns-loop-term-preserved t c =
    patterns_next (theory_of c.args.algebra.now) c.args.all.now c.loop-term.term-index c.term-item.result c.loop-term-test.true c.term-item.is
    c.loop-term.invariant (c.if-not-is_pattern.ensures.0 refl)
