use Rattle.std.proofs.Common.{map, take}
use Rattle.spec_core.specs.Lists.{Each}
use Rattle.symbolic_plans.specs.OpenPlans.{open_plan_of}
use Rattle.node_trees.specs.Origins.{meaning, source_of}
use Rattle.node_trees.specs.Rests.{way_of, IsWayOf}
use Rattle.match_code.specs.Prepared.{program_in}
use Rattle.node_work.specs.Ways.{HasWays}
use Rattle.node_work.proofs.alternatives.ways_of_all.Given as goal

abbrev pub invariant-loop-composite : goal.invariant-loop-composite
invariant-loop-composite l = record {
  ways : Each (IsWayOf (program_in l.prepared) (meaning (program_in l.prepared) (source_of l.origin))) (map way_of l.all.items);
  complete : Each (λ c. HasWays (program_in l.prepared) (meaning (program_in l.prepared) (source_of l.origin)) (map way_of l.all.items)
      (open_plan_of c)) (take l.composite-index l.composites);
}
