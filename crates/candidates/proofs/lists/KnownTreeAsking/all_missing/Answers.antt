use Rattle.std.proofs.Common.{◌≡◌, map, subst}
use Rattle.std.specs.Prelude.{IfOk, OnOk}
use Rattle.decision_order.specs.Jobs.{taken_on, Tells}
use Rattle.candidates.specs.Models.{job_of}
use Rattle.candidates.specs.KnownTrees.{jobs_to_all_of, is_held_among, trees_for, with_job_in}
use Rattle.candidates.proofs.lists.KnownTreeAsking.all_missing.Goals as goal

pub returns : goal.returns
returns c =
    let s = c.args.self.now in
    let take = with_job_in s c.args.limit in
    let new = map job_of c.missing_to_all.new.jobs.items in
    record {
      taken = subst (λ q. OnOk c.missing_to_all.result (new ≡ taken_on take (map job_of c.args.jobs.now.items) (jobs_to_all_of s q (trees_for s q))))
          c.tree_search.ensures c.missing_to_all.ensures.taken;
      asked = subst (λ q. IfOk c.missing_to_all.result (Tells take new (is_held_among s q (trees_for s q)))) c.tree_search.ensures
          c.missing_to_all.ensures.asked;
    }
