-- What jobs of the program stand for.
use Rattle.rule_model.specs.Derivations.{derivation_of}
use Rattle.candidate_verdicts.specs.Known.{node_part}
use Rattle.candidates.specs.declared.job.NodeJob.{NodeJob}
use Rattle.candidates.specs.declared.job.NodeJob.TheVariants.{Expand, Judge}
use Rattle.candidates.specs.Jobs as jobs
use Rattle.candidates.specs.Jobs.{to_expand, to_judge}

abbrev pub job_of : NodeJob → jobs.NodeJob
job_of (Expand generation) = to_expand generation.0
job_of (Judge generation rules) = to_judge (node_part generation.0 (derivation_of rules))
