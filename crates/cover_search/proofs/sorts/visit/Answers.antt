use Rattle.std.proofs.Common.{map, sym, subst, inl, inr}
use Rattle.spec_core.specs.Numbers.{sort_number}
use Rattle.spec_core.specs.Theories.{theory_of}
use Rattle.cover_search.specs.Sorts.{IsInhabited}
use Rattle.cover_search.proofs.Inhabiting.{made_by}
use Rattle.cover_search.proofs.sorts.visit.Goals as goal

pub returns-clause-sound : goal.returns-clause-sound
returns-clause-sound c = λ all s i.
    let theory = theory_of c.args.algebra.now in
    elim (c.add.ensures.only s i) [
      | inl o ↦ all s o
      | inr e ↦ subst (IsInhabited theory) (sym e) (made_by theory c.args.set.now c.args.op.0 (map sort_number c.args.args.now) c.args.sort.0 c.requires.declared (c.is_constructor.ensures.decides.0 c.if-not-is_constructor.false) all (c.are_in.ensures.decides.0 c.if-not-are_in.false))
    ]
