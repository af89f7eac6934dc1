use Rattle.std.proofs.Common.{◌↔◌, IsTrue, refl}
use Rattle.std.proofs.lemmas.Result.{IfOk-weaker}
use Rattle.spec_core.proofs.Lists.{untrue}
use Rattle.spec_core.specs.Orthogonality.{ExcludeEachOther, AreApart}
use Rattle.spec_core.specs.Theories.{theory_of, equation_of}
use Rattle.equation_overlaps.proofs.Parting.{without, by_premises}
use Rattle.equation_overlaps.proofs.apart.are_apart.Goals as goal

pub returns-then-not-meets : goal.returns-then-not-meets
returns-then-not-meets c =
    let e = equation_of c.args.earlier.now in
    let d = equation_of c.args.later.now in
    record {
      decides = (λ h. without (theory_of c.args.algebra.now) e d (λ m. untrue (c.if-not-meets.ensures.decides.1 m)), λ a. refl);
    }

pub returns : goal.returns
returns c =
    let theory = theory_of c.args.algebra.now in
    let e = equation_of c.args.earlier.now in
    let d = equation_of c.args.later.now in
    record {
      decides = IfOk-weaker c.exclude_each_other.result (λ b. IsTrue b ↔ ExcludeEachOther theory e d) (λ b. IsTrue b ↔ AreApart theory e d)
          (λ b h. by_premises theory e d b c.requires.earlier_linear c.requires.later_linear (c.if-not-meets.ensures.decides.0 refl) h)
          c.exclude_each_other.ensures;
    }
