use Rattle.std.proofs.Common.{◌∙◌, ap, map, sum_by, take}
use Rattle.std.proofs.lemmas.List.{take_all}
use Rattle.spec_core.specs.Code.{program_of}
use Rattle.symbolic_plans.specs.OpenPlans.{open_plan_of}
use Rattle.node_trees.specs.Shapes.{shape_of, stands_for}
use Rattle.symbolic_rules.specs.Tables.{windows_in}
use Rattle.candidate_count.specs.Counts.{limited, offers_of_plan}
use Rattle.candidate_count.proofs.Expanded.{expanded_are_counted, one_more}
use Rattle.candidate_count.proofs.counting.count_offers.Goals as goal

pub loop-composite-preserved : goal.loop-composite-preserved
loop-composite-preserved c =
    let program = program_of c.args.checked.now in
    let count = offers_of_plan program (windows_in c.args.windows.now) (stands_for program (shape_of c.args.tree.now)) in
    let cs = c.args.composites.now in
    let i = c.loop-composite.composite-index in
    c.plus-total.ensures.sum (sum_by count (map open_plan_of (take i cs))) (count (open_plan_of c.composite-item.result))
    c.loop-composite.invariant c.composite_count.ensures
    ∙ ap limited (one_more count cs i c.composite-item.result c.loop-composite-test.true c.composite-item.is)

pub returns : goal.returns
returns c =
    let program = program_of c.args.checked.now in
    let w = windows_in c.args.windows.now in
    let t = shape_of c.args.tree.now in
    let count = offers_of_plan program w (stands_for program t) in
    let all = take_all c.loop-composite.composite-index c.args.composites.now c.loop-composite-test.false in
    record {
      counted = c.loop-composite.invariant
          ∙ ap (λ l. limited (sum_by count (map open_plan_of l))) all
          ∙ ap (λ l. limited (sum_by count l)) c.requires.plans
          ∙ ap limited (expanded_are_counted program w t);
    }
