use Rattle.std.proofs.Common.{refl, map, ◌∙◌, subst}
use Rattle.spec_core.specs.Theories.{equation_of}
use Rattle.sort_overloads.specs.Views.{context_of}
use Rattle.static_equations.specs.Bodies.{IsPartJudged}
use Rattle.static_equations.specs.Gathered.{AddsBoth}
use Rattle.static_equations.proofs.Gatherings.{adds-none, adds-next}
use Rattle.static_equations.proofs.body.add_parts.Goals as goal

pub loop-part-init : goal.loop-part-init
loop-part-init c = (refl, refl, adds-none (IsPartJudged (context_of c.args.scope.now)) (map equation_of c.args.all.now.items) c.args.refusals.now.items)

pub loop-part-preserved : goal.loop-part-preserved
loop-part-preserved c =
    let i = c.loop-part.invariant in
    let now = map equation_of c.loop-part.all.items in
    let later = map equation_of c.add_part.new.all.items in
    let mid = c.loop-part.refusals.items in
    let after = c.add_part.new.refusals.items in (
      c.in_ok-add_part.ensures.signature ∙ i.0,
      c.in_ok-add_part.ensures.context ∙ i.1,
      adds-next (IsPartJudged (context_of c.args.scope.now)) c.args.parts.now c.loop-part.part-index c.part-item.result
          (map equation_of c.args.all.now.items) now later c.args.refusals.now.items mid after
          c.loop-part-test.true c.part-item.is i.2
          (subst (λ z. AddsBoth (IsPartJudged z c.part-item.result) now later mid after) i.1 c.in_ok-add_part.ensures.judged),
    )
