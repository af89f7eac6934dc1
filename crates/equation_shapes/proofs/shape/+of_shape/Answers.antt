use Rattle.std.proofs.Common.{arith, refl}
use Rattle.equation_shapes.proofs.Shapes.{shape_lengths, shape_at, shapes_next}
use Rattle.equation_shapes.proofs.shape.+of_shape.Goals as goal

pub are_of_shape-returns-then-shapes-all : goal.are_of_shape-returns-then-shapes-all
are_of_shape-returns-then-shapes-all t c = record { decides = (λ h. cc, λ h. let n = shape_lengths _ _ h in absurd (omega (arith, n, c.if-shapes-all.true))) }

pub are_of_shape-returns-then-not-is_of_shape : goal.are_of_shape-returns-then-not-is_of_shape
are_of_shape-returns-then-not-is_of_shape t c =
    record { decides = (λ h. cc, λ h. c.if-not-is_of_shape.ensures.decides.1 (shape_at c.args.shapes.now c.args.all.now c.loop-i.i c.index-shapes-i.result c.index-all-i.result h c.loop-i-test.true c.index-shapes-i.is c.index-all-i.is)) }

pub are_of_shape-loop-i-preserved : goal.are_of_shape-loop-i-preserved
are_of_shape-loop-i-preserved t c =
    shapes_next c.args.shapes.now c.args.all.now c.loop-i.i c.index-shapes-i.result c.index-all-i.result c.loop-i.invariant c.loop-i-test.true (omega (arith, c.loop-i-test.true, c.if-shapes-all.false)) c.index-shapes-i.is c.index-all-i.is (c.if-not-is_of_shape.ensures.decides.0 refl)
