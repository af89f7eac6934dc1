use Rattle.std.proofs.Common.{◌≡◌, subst, sym}
use Rattle.std.proofs.lemmas.Result.{IfOk-weaker}
use Rattle.candidates.specs.declared.job.NodeJob.{NodeJob}
use Rattle.candidates.specs.Models.{job_of}
use Rattle.board_laws.specs.JobValues.{JobChoosesValues}
use Rattle.node_trees.specs.Origins.{source_of}
use Rattle.symbolic_rules.specs.Tables.{windows_in}
use Rattle.match_code.specs.Prepared.{program_in}
use Rattle.board_work.specs.Outcomes.{ComesOf}
use Rattle.board_work.proofs.performing.perform.Goals as goal

pub judge-requires-clause-values : goal.judge-requires-clause-values
judge-requires-clause-values c =
    subst (λ (t : NodeJob). JobChoosesValues (program_in c.args.prepared.now).theory (job_of t)) c.in-Judge.is c.requires.values

pub returns-in-Expand : goal.returns-in-Expand
returns-in-Expand c = record {
  outcome =
      IfOk-weaker c.expand.result _ _
      (λ outcome h.
      subst
      (λ (t : NodeJob). ComesOf (program_in c.args.prepared.now) (windows_in c.args.windows.now) c.args.budget (source_of c.args.job.now.origin)
      (job_of t) outcome)
      (sym c.in-Expand.is) (h c.in-Expand.field-0.0))
      c.expand.ensures;
}
