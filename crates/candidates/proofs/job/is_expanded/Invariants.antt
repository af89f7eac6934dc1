use Rattle.std.proofs.Common.{◌≡◌, drop, map}
use Rattle.candidates.specs.Jobs.{to_expand, is_out}
use Rattle.candidates.specs.Models.{job_of}
use Rattle.candidates.proofs.job.is_expanded.Given as goal

abbrev pub invariant-loop-job : goal.invariant-loop-job
invariant-loop-job l =
    is_out (map job_of l.out) (to_expand l.generation.0) ≡ is_out (map job_of (drop l.job-index l.out)) (to_expand l.generation.0)
