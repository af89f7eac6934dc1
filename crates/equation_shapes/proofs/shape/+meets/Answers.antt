use Rattle.std.proofs.Common.{arith, refl}
use Rattle.equation_shapes.proofs.Shapes.{meet_lengths, meet_at, meets_next}
use Rattle.equation_shapes.proofs.shape.+meets.Goals as goal

pub meet_all-returns-then-left-right : goal.meet_all-returns-then-left-right
meet_all-returns-then-left-right t c = record { decides = (λ h. cc, λ h. let n = meet_lengths _ _ h in absurd (omega (arith, n, c.if-left-right.true))) }

pub meet_all-returns-then-not-meets : goal.meet_all-returns-then-not-meets
meet_all-returns-then-not-meets t c =
    record { decides = (λ h. cc, λ h. c.if-not-meets.ensures.decides.1 (meet_at c.args.left.now c.args.right.now c.loop-i.i c.index-left-i.result c.index-right-i.result h c.loop-i-test.true c.index-left-i.is c.index-right-i.is)) }

pub meet_all-loop-i-preserved : goal.meet_all-loop-i-preserved
meet_all-loop-i-preserved t c =
    meets_next c.args.left.now c.args.right.now c.loop-i.i c.index-left-i.result c.index-right-i.result c.loop-i.invariant c.loop-i-test.true (omega (arith, c.loop-i-test.true, c.if-left-right.false)) c.index-left-i.is c.index-right-i.is (c.if-not-meets.ensures.decides.0 refl)
