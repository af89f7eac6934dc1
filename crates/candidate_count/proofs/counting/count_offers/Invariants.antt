use Rattle.std.proofs.Common.{◌≡◌, map, sum_by, take}
use Rattle.spec_core.specs.Code.{program_of}
use Rattle.symbolic_plans.specs.OpenPlans.{open_plan_of}
use Rattle.node_trees.specs.Shapes.{shape_of, stands_for}
use Rattle.symbolic_rules.specs.Tables.{windows_in}
use Rattle.candidate_count.specs.Counts.{limited, offers_of_plan}
use Rattle.candidate_count.proofs.counting.count_offers.Given as goal

abbrev pub invariant-loop-composite : goal.invariant-loop-composite
invariant-loop-composite l =
    l.total ≡ limited (sum_by
    (offers_of_plan (program_of l.checked) (windows_in l.windows) (stands_for (program_of l.checked) (shape_of l.tree)))
    (map open_plan_of (take l.composite-index l.composites)))
