use Rattle.std.proofs.Common.{refl}
use Rattle.spec_core.specs.Constructors.{IsConstructor}
use Rattle.spec_core.specs.Numbers.{op_number}
use Rattle.spec_core.specs.Theories.{theory_of}
use Rattle.spec_core.proofs.Lists.{untrue, each-map, each-all}
use Rattle.value_terms.proofs.Stacked.{each_get}
use Rattle.value_terms.proofs.reading.are_constructors.Goals as goal

pub returns-then-not-is_constructor : goal.returns-then-not-is_constructor
returns-then-not-is_constructor c = (
  λ h. absurd (untrue h),
  λ h. absurd (untrue (c.if-not-is_constructor.ensures.decides.1
      (each_get (IsConstructor (theory_of c.args.algebra.now)) c.args.ops.now c.loop-op.op-index _ c.loop-op-test.true h))),
)

pub returns : goal.returns
returns c = (
  λ h. each-map (IsConstructor (theory_of c.args.algebra.now)) op_number c.args.ops.now
      (each-all _ c.args.ops.now c.loop-op.op-index c.loop-op-test.false c.loop-op.invariant),
  λ h. refl,
)
