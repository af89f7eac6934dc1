use Rattle.std.proofs.Common.{map, refl}
use Rattle.spec_core.proofs.Lists.{each-next, each-all, each-map}
use Rattle.spec_core.specs.Code.{relabelling_of}
use Rattle.spec_core.proofs.Members.{some_image}
use Rattle.rule_origins.specs.Parts.{behaviour_at}
use Rattle.rule_origins.specs.Values.{assignment}
use Rattle.node_values.proofs.Stopping.{stops_on}
use Rattle.node_values.specs.Stops.{Never}
use Rattle.symbolic_plans.specs.OpenPlans.{open_plan_of}
use Rattle.symbolic_reach.specs.Asking.{PlanAsks}
use Rattle.node_trees.specs.Origins.{meaning, relabelled_by, source_of}
use Rattle.node_trees.specs.Rests.{way_of}
use Rattle.match_code.specs.Prepared.{program_in}
use Rattle.node_work.specs.Ways.{HasWays, PlansAsk}
use Rattle.node_work.proofs.Adding.{more_ways, still_has}
use Rattle.node_work.proofs.alternatives.ways_of_all.Goals as goal

pub returns-in-Err-clause-stop : goal.returns-in-Err-clause-stop
returns-in-Err-clause-stop c =
    let program = program_in c.args.prepared.now in
    let s = assignment program.theory c.args.origin.now.values.items in
    let code = relabelled_by (map relabelling_of c.args.origin.now.relabel.items) (behaviour_at program c.args.origin.now.node) in
    let items = c.args.composites.now in
    stops_on program.theory c.args.budget (PlanAsks program (open_plan_of c.composite-item.result).plan s code)
    (PlansAsk program s code (map open_plan_of items)) Never Never c.in-Err.stop
    (λ t k. some_image (λ p. PlanAsks program p.plan s code t) open_plan_of items items c.loop-composite.composite-index
    c.composite-item.result refl c.loop-composite-test.true c.composite-item.is k)
    (λ n i. i) c.in-Err.ensures.stop

pub loop-composite-preserved : goal.loop-composite-preserved
loop-composite-preserved c =
    let program = program_in c.args.prepared.now in
    let b = meaning program (source_of c.args.origin.now) in
    let items = c.args.composites.now in
    let p = open_plan_of c.composite-item.result in
    let before = map way_of c.loop-composite.all.items in
    let all = map way_of c.in-Ok.more.items in
    record {
      ways = more_ways program b p before all c.in-Ok.ensures.added c.loop-composite.invariant.ways;
      complete =
          each-next (λ x. HasWays program b all (open_plan_of x)) items items c.loop-composite.composite-index c.composite-item.result refl
          c.loop-composite-test.true c.composite-item.is
          (still_has program b open_plan_of _ p before all c.in-Ok.ensures.added c.loop-composite.invariant.complete)
          c.in-Ok.ensures.added.complete;
    }

pub returns-clause-complete : goal.returns-clause-complete
returns-clause-complete c =
    let program = program_in c.args.prepared.now in
    let b = meaning program (source_of c.args.origin.now) in
    let all = map way_of c.loop-composite.all.items in
    each-map (HasWays program b all) open_plan_of c.args.composites.now
    (each-all (λ x. HasWays program b all (open_plan_of x)) c.args.composites.now c.loop-composite.composite-index
    c.loop-composite-test.false c.loop-composite.invariant.complete)
