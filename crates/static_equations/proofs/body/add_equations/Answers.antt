use Rattle.std.proofs.Common.{map}
use Rattle.spec_core.specs.Theories.{equation_of}
use Rattle.sort_overloads.specs.Views.{context_of}
use Rattle.static_equations.specs.Equations.{IsEquationJudged}
use Rattle.static_equations.specs.Gathered.{IfRead}
use Rattle.static_equations.proofs.Gatherings.{adds-none, adds-next, adds-all}
use Rattle.static_equations.proofs.body.add_equations.Goals as goal

pub loop-equation-init : goal.loop-equation-init
loop-equation-init c = adds-none (λ e. IfRead (IsEquationJudged (context_of c.args.scope.now) c.args.sort e)) (map equation_of c.args.all.now.items) c.args.refusals.now.items

pub loop-equation-preserved : goal.loop-equation-preserved
loop-equation-preserved c =
    adds-next (λ e. IfRead (IsEquationJudged (context_of c.args.scope.now) c.args.sort e)) c.args.equations.now c.loop-equation.equation-index c.equation-item.result
    (map equation_of c.args.all.now.items) (map equation_of c.loop-equation.all.items) (map equation_of c.add_equation.new.all.items)
    c.args.refusals.now.items c.loop-equation.refusals.items c.add_equation.new.refusals.items
    c.loop-equation-test.true c.equation-item.is c.loop-equation.invariant c.in_ok-add_equation.ensures.judged

pub returns : goal.returns
returns c = record {
  judged = adds-all (λ e. IfRead (IsEquationJudged (context_of c.args.scope.now) c.args.sort e)) c.args.equations.now c.loop-equation.equation-index
      (map equation_of c.args.all.now.items) (map equation_of c.loop-equation.all.items) c.args.refusals.now.items c.loop-equation.refusals.items c.loop-equation-test.false c.loop-equation.invariant;
}
