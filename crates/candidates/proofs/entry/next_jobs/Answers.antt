use Rattle.std.proofs.Common.{◌≡◌, [], map}
use Rattle.std.proofs.lemmas.Result.{IfOk-weaker}
use Rattle.decision_order.specs.Jobs.{taken_on}
use Rattle.decision_order.specs.Needed.{next_needed}
use Rattle.decision_order.specs.Numbered.{waiting_with}
use Rattle.decision_order.specs.Searches.{waiting_of}
use Rattle.candidates.specs.Models.{job_of}
use Rattle.candidates.specs.KnownTrees.{offer_in, numbered, with_job_in, jobs_to_first, jobs_to_all, is_held_in, jobs_to_first_of}
use Rattle.candidates.specs.KnownTrees.{jobs_to_all_of, is_held_among, trees_for}
use Rattle.candidates.proofs.Numbering.{jobs_known}
use Rattle.candidates.proofs.entry.next_jobs.Goals as goal

pub returns : goal.returns
returns c =
    let k = c.args.known.now in
    let w = waiting_of c.args.offers.now in
    let take = with_job_in k c.args.limit in
    record {
      jobs = IfOk-weaker c.next_jobs.result
          (λ jobs. map job_of jobs.items ≡ taken_on take []
          (next_needed (λ q. jobs_to_first_of k (numbered k q) (trees_for k (numbered k q)))
          (λ q. jobs_to_all_of k (numbered k q) (trees_for k (numbered k q)))
          (λ q. is_held_among k (numbered k q) (trees_for k (numbered k q))) w))
          (λ jobs. map job_of jobs.items ≡ taken_on take []
          (next_needed (jobs_to_first k) (jobs_to_all k) (is_held_in k) (waiting_with (offer_in k) w)))
          (λ jobs e. jobs_known k w take (map job_of jobs.items) c.requires.parts e) c.next_jobs.ensures.jobs;
    }
