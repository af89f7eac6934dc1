use Rattle.std.proofs.Common.{map, get_or, refl, sym, subst}
use Rattle.std.proofs.lemmas.List.{take_all}
use Rattle.spec_core.specs.declared.items.Op.{Op}
use Rattle.spec_core.specs.Lists.{Each}
use Rattle.spec_core.specs.Numbers.{op_number}
use Rattle.spec_core.specs.Theories.{theory_of}
use Rattle.spec_core.proofs.Lists.{untrue}
use Rattle.cover_search.specs.Constructors.{AreConstructorsOf}
use Rattle.cover_groups.specs.Fullness.{TakesNothing}
use Rattle.cover_groups.proofs.ConstantSorts.{all_constants, op_listed, takes_nothing}
use Rattle.cover_groups.proofs.constants.has_constants.Goals as goal

pub returns-then-not-takes_nothing : goal.returns-then-not-takes_nothing
returns-then-not-takes_nothing c =
    let theory = theory_of c.args.algebra.now in
    let s = c.args.sort.0 in
    let ops = c.of_sort-constructors.result.now in
    let none : Op = record { 0 = 0 } in
    let are : AreConstructorsOf theory s (map op_number ops) =
    subst (AreConstructorsOf theory s) (sym c.of_sort-constructors.ensures) (c.requires.index.constructors s) in
    record {
      decides = (
        λ h. absurd (untrue h),
        λ h. absurd (untrue (c.if-not-takes_nothing.ensures.1
            (takes_nothing theory s (map op_number ops) are (get_or ops c.loop-op.op-index none).0 (op_listed ops c.loop-op.op-index none c.loop-op-test.true) h))),
      );
    }

pub returns : goal.returns
returns c =
    let theory = theory_of c.args.algebra.now in
    let s = c.args.sort.0 in
    let ops = c.of_sort-constructors.result.now in
    let are : AreConstructorsOf theory s (map op_number ops) =
    subst (AreConstructorsOf theory s) (sym c.of_sort-constructors.ensures) (c.requires.index.constructors s) in
    record {
      decides = (
        λ h. all_constants theory s (map op_number ops) are
            (subst (λ xs. Each (TakesNothing theory) (map op_number xs)) (take_all c.loop-op.op-index ops c.loop-op-test.false) c.loop-op.invariant),
        λ h. refl,
      );
    }
