use Rattle.std.proofs.Common.{◌≡◌, [], ◌∷◌, ◌++◌, Some, map, take, ◌+◌, subst, sym, ◌∙◌}
use Rattle.std.proofs.lemmas.List.{take_all}
use Rattle.lotos_ast.specs.FirstRefusals.{first_refusal}
use Rattle.spec_core.specs.Theories.{theory_of, equation_of}
use Rattle.spec_core.proofs.Lists.{map_next}
use Rattle.equation_check.specs.Groups.{AreGroups}
use Rattle.equation_check.specs.Shape.{AreRefusals, next}
use Rattle.equation_check.proofs.Grouping.{no_group, listed_at}
use Rattle.equation_check.proofs.Refusing.{no_refusals, orthogonal, not_orthogonal}
use Rattle.equation_check.proofs.check.check_shape.Goals as goal

pub loop-equation-init : goal.loop-equation-init
loop-equation-init c = record {
  sized = c.in_ok-groups.ensures.sized;
  indexed = c.in_ok-groups.ensures.indexed;
  grouped = no_group (theory_of c.args.algebra.now) c.in_ok-groups.groups.items c.in_ok-groups.ensures.empty;
  refusals = no_refusals (theory_of c.args.algebra.now) c.new-refusals.result.items c.new-refusals.ensures.items;
}

pub refusal_of-requires-clause-listed : goal.refusal_of-requires-clause-listed
refusal_of-requires-clause-listed c =
    listed_at c.deref-equation-items.result.now c.args.algebra.now.equations.items c.loop-equation.equation-index c.equation-item.result
    c.deref-equation-items.ensures.value c.loop-equation-test.true c.equation-item.is

pub refusal_of-requires-clause-grouped : goal.refusal_of-requires-clause-grouped
refusal_of-requires-clause-grouped c =
    (map equation_of (take c.loop-equation.equation-index c.deref-equation-items.result.now), c.loop-equation.invariant.grouped)

pub loop-equation-preserved : goal.loop-equation-preserved
loop-equation-preserved c =
    let theory = theory_of c.args.algebra.now in
    let items = c.deref-equation-items.result.now in
    let i = c.loop-equation.equation-index in
    let before = map equation_of (take i items) in
    let e = equation_of c.equation-item.result in
    let more : map equation_of (take (i + 1) items) ≡ before ++ e ∷ [] =
    map_next equation_of items i c.equation-item.result c.loop-equation-test.true c.equation-item.is in
    record {
      sized = c.in_ok-answer.ensures.sized ∙ c.loop-equation.invariant.sized;
      indexed = c.in_ok-answer.ensures.indexed;
      grouped = subst (λ es. AreGroups theory es c.refusal_of.new.groups.items) (sym more)
          (c.in_ok-answer.ensures.grouped before c.loop-equation.invariant.grouped);
      refusals = subst (λ es. AreRefusals theory es c.add.new.refusals.items) (sym more)
          (subst (AreRefusals theory (before ++ e ∷ [])) (sym c.in_ok-add.ensures)
          (next e c.in_ok-answer.answer c.loop-equation.invariant.refusals
          (c.in_ok-answer.ensures.answer before c.loop-equation.invariant.grouped)));
    }

pub returns-in-Some-clause-not_orthogonal : goal.returns-in-Some-clause-not_orthogonal
returns-in-Some-clause-not_orthogonal c =
    let theory = theory_of c.args.algebra.now in
    let items = c.deref-equation-items.result.now in
    let rs = c.loop-equation.refusals.items in
    let are : AreRefusals theory theory.equations rs =
    subst (λ xs. AreRefusals theory (map equation_of xs) rs) (take_all c.loop-equation.equation-index items c.loop-equation-test.false
    ∙ c.deref-equation-items.ensures.value) c.loop-equation.invariant.refusals in
    let first : first_refusal rs ≡ Some c.in-Some.refusal = sym c.first_refusal.ensures.first ∙ c.in-Some.is in
    not_orthogonal theory c.in-Some.refusal record { refusals = rs; are = are; first = first }

pub returns-clause-orthogonal : goal.returns-clause-orthogonal
returns-clause-orthogonal c =
    let theory = theory_of c.args.algebra.now in
    let items = c.deref-equation-items.result.now in
    let rs = c.loop-equation.refusals.items in
    let are : AreRefusals theory theory.equations rs =
    subst (λ xs. AreRefusals theory (map equation_of xs) rs) (take_all c.loop-equation.equation-index items c.loop-equation-test.false
    ∙ c.deref-equation-items.ensures.value) c.loop-equation.invariant.refusals in
    orthogonal theory (subst (AreRefusals theory theory.equations) c.in-None.ensures.none are)
