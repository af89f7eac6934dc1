use Rattle.std.proofs.Common.{map, subst}
use Rattle.spec_core.specs.Code.{relabelling_of}
use Rattle.rule_origins.specs.Parts.{behaviour_at}
use Rattle.rule_origins.specs.Values.{assignment}
use Rattle.node_values.specs.Stops.{Stops, Never}
use Rattle.symbolic_plans.specs.OpenPlans.{open_plan_of}
use Rattle.node_trees.specs.Origins.{meaning, relabelled_by, source_of}
use Rattle.symbolic_rules.specs.Tables.{windows_in}
use Rattle.match_code.specs.Prepared.{program_in}
use Rattle.node_work.specs.Ways.{PlansAsk}
use Rattle.node_work.proofs.Adding.{way_stops}
use Rattle.node_work.proofs.node.expand_node.Goals as goal

pub returns-in-Err-clause-stop : goal.returns-in-Err-clause-stop
returns-in-Err-clause-stop c =
    let program = program_in c.args.prepared.now in
    let s = assignment program.theory c.args.origin.now.values.items in
    let code = relabelled_by (map relabelling_of c.args.origin.now.relabel.items) (behaviour_at program c.args.origin.now.node) in
    way_stops program (windows_in c.args.windows.now) c.args.budget s code (meaning program (source_of c.args.origin.now))
    (map open_plan_of c.in_ok-composites.composites.items) c.in-Err.stop c.in_ok-composites.ensures.asked
    (subst (λ items. Stops program.theory c.args.budget (PlansAsk program s code (map open_plan_of items)) Never c.in-Err.stop)
    c.deref.ensures.value c.in-Err.ensures.stop)
