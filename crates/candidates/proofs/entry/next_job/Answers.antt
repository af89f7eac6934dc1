use Rattle.std.proofs.Common.{◌∙◌, ap, map}
use Rattle.decision_trees.specs.Lazy.{first}
use Rattle.decision_order.specs.Needed.{next_needed}
use Rattle.decision_order.specs.Numbered.{waiting_with}
use Rattle.decision_order.specs.Searches.{waiting_of}
use Rattle.candidates.specs.Models.{job_of}
use Rattle.candidates.specs.KnownTrees.{offer_in, jobs_to_first, jobs_to_all, is_held_in}
use Rattle.candidates.proofs.Taking.{one_taken}
use Rattle.candidates.proofs.entry.next_job.Goals as goal

pub returns : goal.returns
returns c =
    let k = c.args.known.now in
    let needed = next_needed (jobs_to_first k) (jobs_to_all k) (is_held_in k) (waiting_with (offer_in k) (waiting_of c.args.offers.now)) in
    record {
      job = c.first_of.ensures ∙ ap first c.in_ok-next_jobs.ensures.jobs ∙ one_taken (map job_of k.out.now) needed;
    }
