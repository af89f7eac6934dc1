use Rattle.std.proofs.Common.{[], refl, map, ◌∙◌, subst}
use Rattle.spec_core.specs.Theories.{equation_of}
use Rattle.sort_overloads.specs.Views.{context_of}
use Rattle.static_equations.specs.Bodies.{IsBodyJudged}
use Rattle.static_equations.specs.Gathered.{AddsBoth}
use Rattle.static_equations.proofs.Gatherings.{adds-none}
use Rattle.static_presentation.proofs.OwnReadings.{mapped-more, mapped-all}
use Rattle.static_presentation.proofs.own.read_bodies.Goals as goal

pub loop-body-init : goal.loop-body-init
loop-body-init c = (refl, refl, rw c.new-all.ensures.items (adds-none (IsBodyJudged (context_of c.args.scope.now)) [] c.args.refusals.now.items))

pub loop-body-preserved : goal.loop-body-preserved
loop-body-preserved c =
    let i = c.loop-body.invariant in
    let now = map equation_of c.loop-body.all.items in
    let later = map equation_of c.judge_body.new.all.items in
    let mid = c.loop-body.refusals.items in
    let after = c.judge_body.new.refusals.items in (
      c.in_ok-judge_body.ensures.signature ∙ i.0,
      c.in_ok-judge_body.ensures.context ∙ i.1,
      mapped-more (IsBodyJudged (context_of c.args.scope.now)) (λ b. b.now) c.args.written.now c.loop-body.body-index c.body-item.result
          [] now later c.args.refusals.now.items mid after c.loop-body-test.true c.body-item.is i.2
          (subst (λ z. AddsBoth (IsBodyJudged z c.body-item.result.now) now later mid after) i.1 c.in_ok-judge_body.ensures.judged),
    )

pub returns : goal.returns
returns c = record {
  read = mapped-all (IsBodyJudged (context_of c.args.scope.now)) (λ b. b.now) c.args.written.now c.loop-body.body-index (map equation_of c.loop-body.all.items)
      c.args.refusals.now.items c.loop-body.refusals.items c.loop-body-test.false c.loop-body.invariant.2;
}
