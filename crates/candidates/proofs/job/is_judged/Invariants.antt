use Rattle.std.proofs.Common.{◌≡◌, drop, map}
use Rattle.rule_model.specs.Derivations.{derivation_of}
use Rattle.candidate_verdicts.specs.Known.{node_part}
use Rattle.candidates.specs.Jobs.{to_judge, is_out}
use Rattle.candidates.specs.Models.{job_of}
use Rattle.candidates.proofs.job.is_judged.Given as goal

abbrev pub invariant-loop-job : goal.invariant-loop-job
invariant-loop-job l =
    let job = to_judge (node_part l.generation.0 (derivation_of l.rules)) in
    is_out (map job_of l.out) job ≡ is_out (map job_of (drop l.job-index l.out)) job
