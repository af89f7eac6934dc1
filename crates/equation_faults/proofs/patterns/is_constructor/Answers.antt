use Rattle.std.proofs.Common.{refl, inr}
use Rattle.spec_core.proofs.Lists.{untrue}
use Rattle.spec_core.specs.Theories.{theory_of}
use Rattle.equation_faults.proofs.Constructing.{not_in, only_marked}
use Rattle.equation_faults.proofs.patterns.is_constructor.Goals as goal

pub returns-then-not-has : goal.returns-then-not-has
returns-then-not-has c = (
  λ h. not_in (theory_of c.args.algebra.now) c.args.heads.now c.requires c.args.op.0 (λ i. untrue (c.if-not-has.ensures.decides.1 i)),
  λ h. rw c.if-not-has.true (refl),
)

pub returns-else-not-has : goal.returns-else-not-has
returns-else-not-has c = (
  λ h. inr (c.is_marked.ensures.decides.0 h),
  λ h. c.is_marked.ensures.decides.1
      (only_marked (theory_of c.args.algebra.now) c.args.heads.now c.requires c.args.op.0 (c.if-not-has.ensures.decides.0 refl) h),
)
