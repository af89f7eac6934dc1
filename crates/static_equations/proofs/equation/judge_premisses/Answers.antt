use Rattle.std.proofs.Common.{[], map}
use Rattle.spec_core.specs.Theories.{premise_of}
use Rattle.sort_overloads.specs.Views.{context_of}
use Rattle.static_equations.specs.Equations.{ArePremissesJudged}
use Rattle.static_equations.specs.Gathered.{IfRead}
use Rattle.static_equations.specs.Premisses.{IsPremissJudged}
use Rattle.static_equations.proofs.Gatherings.{adds-none, adds-next, adds-all, from-nothing}
use Rattle.static_equations.proofs.equation.judge_premisses.Goals as goal

pub loop-premiss-init : goal.loop-premiss-init
loop-premiss-init c = rw c.new-all.ensures.items (adds-none (λ p. IfRead (IsPremissJudged (context_of c.args.scope.now) p)) [] c.args.refusals.now.items)

pub loop-premiss-preserved : goal.loop-premiss-preserved
loop-premiss-preserved c =
    adds-next (λ p. IfRead (IsPremissJudged (context_of c.args.scope.now) p)) c.args.premisses.now c.loop-premiss.premiss-index c.premiss-item.result
    [] (map premise_of c.loop-premiss.all.items) (map premise_of c.add_premiss.new.all.items) c.args.refusals.now.items c.loop-premiss.refusals.items c.add_premiss.new.refusals.items
    c.loop-premiss-test.true c.premiss-item.is c.loop-premiss.invariant c.in_ok-add_premiss.ensures.judged

pub returns : goal.returns
returns c =
    let now = map premise_of c.loop-premiss.all.items in
    record {
      judged = from-nothing (ArePremissesJudged (context_of c.args.scope.now) c.args.premisses.now) now c.args.refusals.now.items c.loop-premiss.refusals.items
          (adds-all (λ p. IfRead (IsPremissJudged (context_of c.args.scope.now) p)) c.args.premisses.now c.loop-premiss.premiss-index [] now c.args.refusals.now.items c.loop-premiss.refusals.items c.loop-premiss-test.false c.loop-premiss.invariant);
    }
