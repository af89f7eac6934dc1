use Rattle.std.proofs.Common.{Some, None, refl, sym, ap, subst, ◌∙◌}
use Rattle.lotos_ast.specs.ExpressionTrees.{expr_tree}
use Rattle.lotos_ast.specs.ListTrees.{tree_place}
use Rattle.spec_core.specs.Terms.{term_of, constant}
use Rattle.spec_core.specs.Theories.{premise}
use Rattle.sort_overloads.specs.Expressions.{expression}
use Rattle.sort_overloads.specs.Judged.{typed_term, typed_if_read, Adds, IsJudged}
use Rattle.sort_overloads.specs.Listed.{Typed}
use Rattle.sort_overloads.specs.Views.{context_of}
use Rattle.static_equations.specs.Premisses.{IsTruthJudged}
use Rattle.static_equations.specs.Views.{truth_of}
use Rattle.static_equations.proofs.Truths.{no-truth, with-truth}
use Rattle.static_equations.proofs.condition.judge_truth.Goals as goal

pub returns-in_ok-add_no_truth-in-None : goal.returns-in_ok-add_no_truth-in-None
returns-in_ok-add_no_truth-in-None c =
    let context = context_of c.args.scope.now in
    let e = expression (expr_tree c.args.expr.now) in
    let place = tree_place (expr_tree c.args.expr.now) in
    record {
      judged = no-truth context e place c.args.refusals.now.items c.add_no_truth.new.refusals.items
          (sym c.in_ok-truth.ensures.truth ∙ ap truth_of c.in-None.is) (c.in_ok-add_no_truth-in-None).ensures.added;
    }

pub returns-in-None-read : goal.returns-in-None-read
returns-in-None-read c =
    let context = context_of c.args.scope.now in
    let e = expression (expr_tree c.args.expr.now) in
    let place = tree_place (expr_tree c.args.expr.now) in
    let old = c.args.refusals.now.items in
    let now = c.judge.new.refusals.items in
    let sort = c.in-Some.truth.sort in
    let t : Typed = record { term = constant c.in-Some.truth.op.0; sort = sort.0 } in
    let h = subst (λ z. Adds (IsJudged context e (Some sort) place (typed_if_read z)) old now) c.in-None-read.is c.in_ok-read-in-Some.ensures.judged in
    record { judged = with-truth context e place old now t sort None (sym c.in_ok-truth.ensures.truth ∙ ap truth_of c.in-Some.is) refl h }

pub returns-in-Some-read : goal.returns-in-Some-read
returns-in-Some-read c =
    let context = context_of c.args.scope.now in
    let e = expression (expr_tree c.args.expr.now) in
    let place = tree_place (expr_tree c.args.expr.now) in
    let old = c.args.refusals.now.items in
    let now = c.judge.new.refusals.items in
    let sort = c.in-Some.truth.sort in
    let t : Typed = record { term = constant c.in-Some.truth.op.0; sort = sort.0 } in
    let h = subst (λ z. Adds (IsJudged context e (Some sort) place (typed_if_read z)) old now) c.in-Some-read.is c.in_ok-read-in-Some.ensures.judged in
    record {
      judged = subst (λ z. Adds (IsTruthJudged context e place (Some (premise (term_of c.in-Some-read.read.term) z))) old now) (sym c.constant_term.ensures)
          (with-truth context e place old now t sort (Some (typed_term c.in-Some-read.read)) (sym c.in_ok-truth.ensures.truth ∙ ap truth_of c.in-Some.is) refl h);
    }
