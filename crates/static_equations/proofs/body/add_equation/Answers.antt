use Rattle.std.proofs.Common.{map, subst}
use Rattle.spec_core.specs.Theories.{equation_of}
use Rattle.sort_overloads.specs.Judged.{Adds}
use Rattle.sort_overloads.specs.Views.{context_of}
use Rattle.static_equations.specs.Equations.{IsEquationJudged}
use Rattle.static_equations.specs.Views.{equation_if_read}
use Rattle.static_equations.proofs.Gatherings.{adds-read, adds-unread}
use Rattle.static_equations.proofs.body.add_equation.Goals as goal

pub returns-in-None : goal.returns-in-None
returns-in-None c =
    let P = IsEquationJudged (context_of c.args.scope.now) c.args.sort c.args.equation.now in
    let old = c.args.refusals.now.items in
    let now = c.judge_equation.new.refusals.items in
    record { judged = adds-unread P (map equation_of c.args.all.now.items) old now (subst (λ z. Adds (P (equation_if_read z)) old now) c.in-None.is c.in_ok-found.ensures.judged) }

pub returns-in_ok-push-in-Some : goal.returns-in_ok-push-in-Some
returns-in_ok-push-in-Some c =
    let P = IsEquationJudged (context_of c.args.scope.now) c.args.sort c.args.equation.now in
    let old = c.args.refusals.now.items in
    let now = c.judge_equation.new.refusals.items in
    record {
      judged = adds-read equation_of P c.args.all.now.items c.push.new.self.items c.in-Some.equation old now (c.in_ok-push-in-Some).ensures.items
          (subst (λ z. Adds (P (equation_if_read z)) old now) c.in-Some.is c.in_ok-found.ensures.judged);
    }
