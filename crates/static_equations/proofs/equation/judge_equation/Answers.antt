use Rattle.std.proofs.Common.{◌<◌, ◌≤◌, length, map, ap, ◌∙◌, subst, arith}
use Rattle.spec_core.specs.Theories.{premise_of, equation_of}
use Rattle.sort_overloads.specs.Judged.{typed_if_read, typed_term, Adds}
use Rattle.sort_overloads.specs.Views.{context_of}
use Rattle.static_equations.specs.Numbered.{equation_of_terms}
use Rattle.static_equations.specs.Equations.{ArePremissesJudged}
use Rattle.static_equations.proofs.Parts.{some-refused, all-read}
use Rattle.static_equations.proofs.equation.judge_equation.Goals as goal

pub returns-then-before-len : goal.returns-then-before-len
returns-then-before-len c =
    let longer : length c.args.refusals.now.items < length c.judge-2.new.refusals.items = grind arith in
    record {
      judged = some-refused (context_of c.args.scope.now) c.args.sort c.args.equation.now c.args.refusals.now.items c.judge_premisses.new.refusals.items c.judge.new.refusals.items c.judge-2.new.refusals.items
          (map premise_of c.in_ok-premises.premises.items) (typed_if_read c.in_ok-left.left) (typed_if_read c.in_ok-right.right)
          (subst (λ z. Adds (ArePremissesJudged (context_of c.args.scope.now) z (map premise_of c.in_ok-premises.premises.items)) c.args.refusals.now.items c.judge_premisses.new.refusals.items) c.premisses_of-premisses.ensures c.in_ok-premises.ensures.judged)
          c.in_ok-left.ensures.judged c.in_ok-right.ensures.judged longer;
    }

pub returns-in-Some-Some : goal.returns-in-Some-Some
returns-in-Some-Some c =
    let context = context_of c.args.scope.now in
    let place = c.args.equation.now.place in
    let no_longer : length c.judge-2.new.refusals.items ≤ length c.args.refusals.now.items = grind arith in
    let left = typed_term c.in-Some-Some.left in
    let right = typed_term c.in-Some-Some.right in
    record {
      judged = all-read context c.args.sort c.args.equation.now c.args.refusals.now.items c.judge_premisses.new.refusals.items c.judge.new.refusals.items c.judge-2.new.refusals.items
          (map premise_of c.in_ok-premises.premises.items) (typed_if_read c.in_ok-left.left) (typed_if_read c.in_ok-right.right)
          (subst (λ z. Adds (ArePremissesJudged context z (map premise_of c.in_ok-premises.premises.items)) c.args.refusals.now.items c.judge_premisses.new.refusals.items) c.premisses_of-premisses.ensures c.in_ok-premises.ensures.judged)
          c.in_ok-left.ensures.judged c.in_ok-right.ensures.judged
          left right (equation_of c.in_ok-equation-in-Some-Some.equation) (ap typed_if_read c.in-Some-Some.is-0) (ap typed_if_read c.in-Some-Some.is-1) no_longer
          ((c.in_ok-equation-in-Some-Some).ensures
          ∙ ap (λ vs. equation_of_terms vs place (map premise_of c.deref.result.now) left.term right.term) c.as_slice.ensures.all
          ∙ ap (λ ps. equation_of_terms context.variables place (map premise_of ps) left.term right.term) c.deref.ensures.value);
    }
