use Rattle.std.proofs.Common.{◌≡◌, ◌∙◌, ap, subst, sym}
use Rattle.spec_core.specs.Lists.{IsOneOf}
use Rattle.candidates.specs.declared.job.NodeJob.{NodeJob}
use Rattle.candidates.specs.Models.{job_of}
use Rattle.node_trees.specs.Origins.{source_of}
use Rattle.node_trees.specs.Shapes.{Held, IsNodeOf, Lives}
use Rattle.board_laws.specs.JobValues.{JobChoosesValues}
use Rattle.board_laws.specs.Needed.{generation_of}
use Rattle.board_core.specs.Views.{needed_at, program, tree}
use Rattle.board_core.proofs.board.Board.asked.Goals as goal

pub with_origin-requires : goal.with_origin-requires
with_origin-requires c = record {
  lives = subst (λ j. Lives (tree c.args.self.now) (generation_of j)) (sym c.in_ok-task.ensures.equal)
      (c.needed_jobs_live.ensures (job_of c.args.task.now) c.requires.needed);
}

pub returns-clause-asked : goal.returns-clause-asked
returns-clause-asked c =
    let v = c.args.self.now in
    let job = c.in_ok-job.job in
    let needed = job_of c.args.task.now in
    let same : job_of job.task ≡ needed = ap job_of c.in_ok-job.ensures.task ∙ c.in_ok-task.ensures.equal in
    record {
      among = subst (λ j. IsOneOf j (needed_at v)) (sym same) c.requires.needed;
      lives = subst (λ j. Lives (tree v) (generation_of j)) (sym same) (c.needed_jobs_live.ensures needed c.requires.needed);
      origin = subst (λ (t : NodeJob). (n : Held) → IsNodeOf (tree v) (generation_of (job_of t)) n → n.source ≡ source_of job.origin)
          (sym c.in_ok-job.ensures.task) c.in_ok-job.ensures.origin;
      looks = c.requires.looks;
      values = subst (JobChoosesValues (program v).theory) (sym same) (c.needed_jobs_choose_values.ensures needed c.requires.needed);
    }
