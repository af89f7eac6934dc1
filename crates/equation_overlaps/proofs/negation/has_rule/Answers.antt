use Rattle.std.proofs.Common.{refl, subst}
use Rattle.spec_core.specs.Lists.{Each}
use Rattle.spec_core.specs.Theories.{equation_of}
use Rattle.spec_core.proofs.Lists.{untrue, each-all}
use Rattle.spec_core.proofs.Members.{some_image}
use Rattle.equation_overlaps.specs.Library.{IsRule}
use Rattle.equation_overlaps.proofs.Walks.{none-all}
use Rattle.equation_overlaps.proofs.negation.has_rule.Goals as goal

pub returns-then-is_rule : goal.returns-then-is_rule
returns-then-is_rule c = (
  λ h. some_image (IsRule c.args.op.0 c.args.given.0 c.args.value.0) equation_of _ _ c.loop-equation.equation-index c.equation-item.result
      c.deref-equation-items.ensures.value c.loop-equation-test.true c.equation-item.is (c.if-is_rule.ensures.decides.0 refl),
  λ h. refl,
)

pub returns : goal.returns
returns c = (
  λ h. absurd (untrue h),
  λ h. absurd (none-all (IsRule c.args.op.0 c.args.given.0 c.args.value.0) equation_of c.args.algebra.now.equations.items
      (subst (λ es. Each (λ e. IsRule c.args.op.0 c.args.given.0 c.args.value.0 (equation_of e) → ⊥) es) c.deref-equation-items.ensures.value
      (each-all _ c.deref-equation-items.result.now c.loop-equation.equation-index c.loop-equation-test.false c.loop-equation.invariant)) h),
)
