use Rattle.std.proofs.Common.{◌≡◌, ◌∙◌, sym, ap, arith}
use Rattle.spec_core.specs.Code.{program_of}
use Rattle.rule_origins.specs.Parts.{behaviour_at}
use Rattle.symbolic_plans.specs.Parts.{plan_of_first, plan_of_part, rule_count}
use Rattle.symbolic_plans.specs.Plans.{below}
use Rattle.node_steps.proofs.Sides.{turns_further, asks_further}
use Rattle.node_steps.proofs.choices.below_choices.Goals as goal

pub loop-row-preserved : goal.loop-row-preserved
loop-row-preserved c =
    let program = program_of c.args.checked.now in
    let b = behaviour_at program c.args.number in
    let here = behaviour_at program c.loop-row.place in
    let side = behaviour_at program c.in-Some.side in
    let p = plan_of_part c.args.part in
    let q = plan_of_part c.loop-row.rest in
    let r = plan_of_part c.in-Under.next in
    let is : q ≡ below c.in-Under.row.now r = sym c.first.ensures.first ∙ ap plan_of_first c.in-Under.is in
    record {
      turns = turns_further program c.in-Under.row.now b here side p q r is c.in-Some.ensures.some c.loop-row.invariant.turns;
      asks = asks_further program c.in-Under.row.now b here side p q r is c.in-Some.ensures.some c.loop-row.invariant.asks;
      shorter = omega (arith, ap rule_count is, c.loop-row.invariant.shorter);
    }
