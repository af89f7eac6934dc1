use Rattle.std.proofs.Common.{refl}
use Rattle.spec_core.proofs.Lists.{untrue}
use Rattle.spec_core.specs.Theories.{premise_of, theory_of}
use Rattle.equation_overlaps.specs.Exclusion.{Clash}
use Rattle.equation_overlaps.proofs.Clashing.{some_at, none_next}
use Rattle.equation_overlaps.proofs.exclusion.clashes_with.Goals as goal

pub returns-then-clash : goal.returns-then-clash
returns-then-clash c = (
  λ h. some_at (Clash (theory_of c.args.algebra.now) (premise_of c.args.one.now)) c.args.others.now c.loop-other.other-index c.other-item.result
      c.loop-other-test.true c.other-item.is (c.if-clash.ensures.0 refl),
  λ h. refl,
)

pub loop-other-preserved : goal.loop-other-preserved
loop-other-preserved c =
    none_next (Clash (theory_of c.args.algebra.now) (premise_of c.args.one.now)) c.args.others.now c.loop-other.other-index c.other-item.result
    c.loop-other-test.true c.other-item.is c.loop-other.invariant (λ x. untrue (c.if-clash.ensures.1 x))
