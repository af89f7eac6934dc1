use Rattle.std.proofs.Common.{map, refl}
use Rattle.spec_core.proofs.Lists.{untrue}
use Rattle.spec_core.specs.Lists.{OneOf}
use Rattle.spec_core.specs.Theories.{premise_of, theory_of}
use Rattle.equation_overlaps.specs.Exclusion.{Clash}
use Rattle.equation_overlaps.proofs.Clashing.{some_at, none_next}
use Rattle.equation_overlaps.proofs.exclusion.some_clash.Goals as goal

pub returns-then-clashes_with : goal.returns-then-clashes_with
returns-then-clashes_with c = (
  λ h. some_at (λ p. OneOf (Clash (theory_of c.args.algebra.now) p) (map premise_of c.args.others.now)) c.args.ones.now c.loop-one.one-index
      c.one-item.result c.loop-one-test.true c.one-item.is (c.if-clashes_with.ensures.0 refl),
  λ h. refl,
)

pub loop-one-preserved : goal.loop-one-preserved
loop-one-preserved c =
    none_next (λ p. OneOf (Clash (theory_of c.args.algebra.now) p) (map premise_of c.args.others.now)) c.args.ones.now c.loop-one.one-index
    c.one-item.result c.loop-one-test.true c.one-item.is c.loop-one.invariant (λ x. untrue (c.if-clashes_with.ensures.1 x))
