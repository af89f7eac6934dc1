use Rattle.std.proofs.Common.{◌≡◌, ◌||◌, length, map}
use Rattle.candidate_search.specs.Searches.{query_of}
use Rattle.decision_order.specs.Jobs.{taken_on}
use Rattle.candidates.specs.Models.{job_of}
use Rattle.candidates.specs.Walks.{ahead}
use Rattle.candidates.specs.KnownTrees.{jobs_to_all_of, is_held_among, trees_for, with_job_in}
use Rattle.candidates.proofs.known_tree.KnownTree.all_missing_along.Given as goal

abbrev pub invariant-loop-walk : goal.invariant-loop-walk
invariant-loop-walk l =
    let q = query_of l.search in
    record {
      taken : taken_on (with_job_in l.self l.limit) (map job_of l.initial.jobs.items) (jobs_to_all_of l.self q (trees_for l.self q)) ≡
          taken_on (with_job_in l.self l.limit) (map job_of l.jobs.items) (jobs_to_all_of l.self q (ahead l.walk));
      held : is_held_among l.self q (trees_for l.self q) ≡ l.held || is_held_among l.self q (ahead l.walk);
    }

abbrev pub decreases-loop-walk : goal.decreases-loop-walk
decreases-loop-walk l = length (ahead l.walk)
