use Rattle.std.proofs.Common.{map, sym, ap, subst, rules}
use Rattle.symbolic_plans.specs.OpenPlans.{open_plan_of}
use Rattle.node_trees.specs.Shapes.{work_of}
use Rattle.candidate_composites.specs.Known.{sought_in, placed_at}
use Rattle.candidate_composites.proofs.StandingFirst.{AreOf, at_node, at_unsought}
use Rattle.candidate_composites.proofs.foremost.of_node.Goals as goal

pub returns-in-Some : goal.returns-in-Some
returns-in-Some c =
    at_node (sought_in c.args.sought.now) c.args.gaps.now.items c.args.node.now.generation.0 (work_of c.args.node.now.work)
    (map open_plan_of c.deref.result.now) c.is_some_kept.result
    (subst (λ w. AreOf (map open_plan_of c.deref.result.now) (work_of w)) (sym c.in-Some.is)
    (ap (map open_plan_of) (sym c.deref.ensures.value)))
    (search rules)

pub returns-else-seeks_some : goal.returns-else-seeks_some
returns-else-seeks_some c =
    at_unsought (sought_in c.args.sought.now) c.args.gaps.now.items
    (placed_at c.args.node.now.generation.0 (work_of c.args.node.now.work)) (search rules)
