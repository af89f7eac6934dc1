use Rattle.std.proofs.Common.{◌∙◌, List, map, ap, sym, subst}
use Rattle.spec_core.specs.declared.items.Sort.{Sort}
use Rattle.spec_core.specs.Numbers.{sort_number}
use Rattle.spec_core.specs.Theories.{theory_of, operation_of}
use Rattle.spec_core.proofs.Lists.{untrue}
use Rattle.cover_search.specs.Sorts.{AreIn}
use Rattle.cover_search.specs.Search.{variables, rows_of, arguments_of}
use Rattle.cover_search.specs.declared.arguments.Arguments.{Arguments}
use Rattle.cover_search.proofs.Stacking.{makers_in}
use Rattle.cover_search.proofs.Searching.{inhabited_by}
use Rattle.cover_check.specs.Cases.{AreRows}
use Rattle.cover_check.proofs.Covering.{answers}
use Rattle.cover_check.proofs.cases.uncovered_case.Goals as goal

pub returns-then-not-are_in-clause-covered : goal.returns-then-not-are_in-clause-covered
returns-then-not-are_in-clause-covered c = λ vs n h k.
    let theory = theory_of c.args.algebra.now in
    let sorts = map sort_number c.args.declaration.now.args.items in
    let all : AreIn c.args.index.now.inhabited sorts = (makers_in theory c.args.index.now.inhabited sorts c.requires.index.inhabited).1 (inhabited_by theory vs sorts h k) in
    absurd (untrue (c.if-not-are_in.ensures.decides.1 (subst (λ (xs : List Sort). AreIn c.args.index.now.inhabited (map sort_number xs)) (sym c.deref.ensures.value) all)))

pub returns : goal.returns
returns c =
    let theory = theory_of c.args.algebra.now in
    let sorts = map sort_number c.args.declaration.now.args.items in
    let all : AreIn c.args.index.now.inhabited sorts = subst (λ (xs : List Sort). AreIn c.args.index.now.inhabited (map sort_number xs)) c.deref.ensures.value (c.are_in.ensures.decides.0 c.if-not-are_in.false) in
    let r = answers theory c.args.op.0 (operation_of c.args.declaration.now) c.requires.declared c.requires.fits c.requires.orthogonal
    (rows_of c.deref-3.result.now) (subst (λ (xs : List Arguments). AreRows theory c.args.op.0 theory.equations (rows_of xs)) (sym c.deref-3.ensures.value) c.in_ok-rows.ensures)
    (λ k. untrue (c.if-is_constructor.ensures.decides.1 k)) ((makers_in theory c.args.index.now.inhabited sorts c.requires.index.inhabited).0 all)
    (arguments_of c.in_ok-start.start)
    (c.in_ok-start.ensures ∙ ap (λ (xs : List Sort). variables (map sort_number xs)) c.deref-2.ensures.value)
    c.uncovered_pattern.result c.uncovered_pattern.ensures.covered c.uncovered_pattern.ensures.uncovered in
    record { covered = r.0; uncovered = r.1 }
