use Rattle.std.proofs.Common.{map, sym, subst, inl, inr}
use Rattle.spec_core.specs.Numbers.{sort_number}
use Rattle.spec_core.specs.OpenSorts.{IsOpen}
use Rattle.spec_core.specs.Theories.{theory_of}
use Rattle.cover_check.proofs.Opening.{opened_by}
use Rattle.cover_check.proofs.sorts.visit.Goals as goal

pub returns-clause-sound : goal.returns-clause-sound
returns-clause-sound c = λ all s i.
    let theory = theory_of c.args.algebra.now in
    elim (c.add.ensures.only s i) [
      | inl o ↦ all s o
      | inr e ↦ subst (IsOpen theory) (sym e) (opened_by theory c.args.set.now c.args.op.0 (map sort_number c.args.args.now) c.args.sort.0 c.requires.declared all (c.gives_open.ensures.0 c.if-not-gives_open.false))
    ]
