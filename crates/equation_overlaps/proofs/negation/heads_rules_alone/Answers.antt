use Rattle.std.proofs.Common.{refl, subst, inl, inr}
use Rattle.spec_core.specs.Lists.{Each}
use Rattle.spec_core.specs.Theories.{equation_of}
use Rattle.spec_core.proofs.Lists.{untrue, each-at, each-all, each-map}
use Rattle.equation_overlaps.specs.Library.{IsRuleIfHeaded}
use Rattle.equation_overlaps.proofs.negation.heads_rules_alone.Goals as goal

pub returns : goal.returns
returns c = (
  λ h. each-map (IsRuleIfHeaded c.args.op.0 c.args.yes.0 c.args.no.0) equation_of _
      (subst (λ es. Each (λ e. IsRuleIfHeaded c.args.op.0 c.args.yes.0 c.args.no.0 (equation_of e)) es) c.deref-equation-items.ensures.value
      (each-all _ c.deref-equation-items.result.now c.loop-equation.equation-index c.loop-equation-test.false c.loop-equation.invariant)),
  λ h. refl,
)

pub returns-then-not-is_rule-2 : goal.returns-then-not-is_rule-2
returns-then-not-is_rule-2 c = (
  λ h. absurd (untrue h),
  λ h.
      let k =
      each-at (IsRuleIfHeaded c.args.op.0 c.args.yes.0 c.args.no.0) equation_of _ _ _ c.equation-item.result
      c.deref-equation-items.ensures.value c.loop-equation-test.true c.equation-item.is h in
      elim (k (c.if-heads.ensures.0 refl)) [
        | inl r ↦ c.if-not-is_rule.ensures.decides.1 r
        | inr r ↦ c.if-not-is_rule-2.ensures.decides.1 r
      ],
)
