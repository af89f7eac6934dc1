use Rattle.std.proofs.Common.{◌≡◌, [], Some, map, subst, sym, ◌∙◌}
use Rattle.lotos_ast.specs.FirstRefusals.{first_refusal}
use Rattle.spec_core.specs.Theories.{theory_of, equation_of}
use Rattle.path_order.specs.Decrease.{AreRefusals, none}
use Rattle.path_order.proofs.Depending.{one_of_at}
use Rattle.path_order.proofs.Refusing.{added_next, answers_end, all_decreasing, not_all}
use Rattle.path_order.proofs.check.check_decrease.Goals as goal

pub loop-equation-init : goal.loop-equation-init
loop-equation-init c = record {
  refusals = subst (AreRefusals (theory_of c.args.algebra.now) []) (sym c.new-refusals.ensures.items) none;
  last = tt;
}

pub add_refusal-requires : goal.add_refusal-requires
add_refusal-requires c = record {
  mentions = c.in_ok-mentions.ensures;
  listed = one_of_at equation_of c.args.algebra.now.equations.items c.deref-equation-items.result.now c.loop-equation.equation-index
      c.equation-item.result c.deref-equation-items.ensures.value c.loop-equation-test.true c.equation-item.is;
  last = c.loop-equation.invariant.last;
}

pub loop-equation-preserved : goal.loop-equation-preserved
loop-equation-preserved c = record {
  refusals = added_next (theory_of c.args.algebra.now) c.deref-equation-items.result.now c.loop-equation.equation-index c.equation-item.result
      c.loop-equation.refusals.items c.add_refusal.new.refusals.items c.loop-equation-test.true c.equation-item.is
      c.loop-equation.invariant.refusals c.in_ok-last.ensures.added;
  last = c.in_ok-last.ensures.last;
}

pub returns-in-Some-clause-not_decreasing : goal.returns-in-Some-clause-not_decreasing
returns-in-Some-clause-not_decreasing c =
    let theory = theory_of c.args.algebra.now in
    let items = c.deref-equation-items.result.now in
    let rs = c.loop-equation.refusals.items in
    let listed : AreRefusals theory theory.equations rs = subst (λ xs. AreRefusals theory (map equation_of xs) rs) c.deref-equation-items.ensures.value
    (answers_end theory items c.loop-equation.equation-index rs c.loop-equation-test.false c.loop-equation.invariant.refusals) in
    let first : first_refusal rs ≡ Some c.in-Some.refusal = sym c.first_refusal.ensures.first ∙ c.in-Some.is in
    not_all theory c.in-Some.refusal record { refusals = rs; listed = listed; first = first }

pub returns-clause-decreasing : goal.returns-clause-decreasing
returns-clause-decreasing c =
    let theory = theory_of c.args.algebra.now in
    let items = c.deref-equation-items.result.now in
    let rs = c.loop-equation.refusals.items in
    let listed : AreRefusals theory theory.equations rs = subst (λ xs. AreRefusals theory (map equation_of xs) rs) c.deref-equation-items.ensures.value
    (answers_end theory items c.loop-equation.equation-index rs c.loop-equation-test.false c.loop-equation.invariant.refusals) in
    all_decreasing theory theory.equations (subst (AreRefusals theory theory.equations) c.in-None.ensures.none listed)
