use Rattle.spec_core.specs.Code.{program_of}
use Rattle.symbolic_plans.specs.Parts.{plan_of_part}
use Rattle.candidate_count.proofs.Alike.{ended_has_none}
use Rattle.candidate_count.proofs.trees.+in_branch.Goals as goal

pub in_branch-returns-in-Ended : goal.in_branch-returns-in-Ended
in_branch-returns-in-Ended t c = record {
  predicate = ended_has_none (program_of c.args.checked.now) (plan_of_part c.args.plan) c.args.branch.now c.in-Ended.is;
}
