use Rattle.std.proofs.Common.{refl, subst}
use Rattle.spec_core.specs.Lists.{Each}
use Rattle.spec_core.specs.Theories.{Heads, equation_of}
use Rattle.spec_core.proofs.Lists.{untrue, each-at, each-all, each-map}
use Rattle.spec_core.proofs.constructors.heads_none.Goals as goal

pub returns-then-heads : goal.returns-then-heads
returns-then-heads c = (
  λ h. absurd (untrue h),
  λ h.
      absurd (each-at (λ e. Heads c.args.op.0 e → ⊥) equation_of _ _ _ c.equation-item.result c.deref-equation-items.ensures.value
      c.loop-equation-test.true c.equation-item.is h (c.if-heads.ensures.0 refl)),
)

pub returns : goal.returns
returns c = (
  λ h. each-map (λ e. Heads c.args.op.0 e → ⊥) equation_of _
      (subst (λ es. Each (λ e. Heads c.args.op.0 (equation_of e) → ⊥) es) c.deref-equation-items.ensures.value
      (each-all _ c.deref-equation-items.result.now c.loop-equation.equation-index c.loop-equation-test.false c.loop-equation.invariant)),
  λ h. refl,
)
