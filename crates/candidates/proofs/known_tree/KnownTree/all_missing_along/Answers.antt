use Rattle.std.proofs.Common.{◌≡◌, ◌∙◌, ◌||◌, [], ◌∷◌, ap, false, length, map, nat_lt, rules, sym}
use Rattle.candidate_search.specs.Searches.{query_of}
use Rattle.candidates.specs.KnownTrees.{jobs_to_all_of, is_held_among, with_job_in}
use Rattle.candidates.specs.Models.{job_of}
use Rattle.candidates.specs.Walks.{met_of, ahead}
use Rattle.candidates.proofs.Asking.{held_after, taken_all}
use Rattle.candidates.proofs.Taking.{no_room, or_more}
use Rattle.candidates.proofs.known_tree.KnownTree.all_missing_along.Goals as goal

pub returns-then-is_full-clause-taken : goal.returns-then-is_full-clause-taken
returns-then-is_full-clause-taken c =
    let s = c.args.self.now in
    let q = query_of c.args.search in
    let l = ahead c.loop-walk.walk in
    let x = met_of c.in-Some.met in
    let rest = ahead c.next.new.self in
    let new = map job_of c.missing_at.new.jobs.items in
    let full : nat_lt (length new) c.args.limit ≡ false = search rules in
    sym (c.loop-walk.invariant.taken
    ∙ taken_all s q l x rest (search rules) (with_job_in s c.args.limit) (map job_of c.loop-walk.jobs.items) new (search rules)
    ∙ no_room c.args.limit (map job_of s.out.now) new (jobs_to_all_of s q rest) full)

pub returns-then-is_full-clause-asked : goal.returns-then-is_full-clause-asked
returns-then-is_full-clause-asked c questions =
    let new = map job_of c.missing_at.new.jobs.items in
    let full : nat_lt (length new) c.args.limit ≡ false = search rules in
    no_room c.args.limit (map job_of c.args.self.now.out.now) new questions full

pub loop-walk-preserved : goal.loop-walk-preserved
loop-walk-preserved c =
    let s = c.args.self.now in
    let q = query_of c.args.search in
    let l = ahead c.loop-walk.walk in
    let x = met_of c.in-Some.met in
    let rest = ahead c.next.new.self in
    let new = map job_of c.missing_at.new.jobs.items in
    let here : is_held_among s q (x ∷ []) ≡ c.in_ok-here.here = search rules in
    record {
      taken = c.loop-walk.invariant.taken
          ∙ taken_all s q l x rest (search rules) (with_job_in s c.args.limit) (map job_of c.loop-walk.jobs.items) new (search rules);
      held = c.loop-walk.invariant.held ∙ ap (λ z. c.loop-walk.held || z) (held_after s q l x rest (search rules))
          ∙ or_more c.loop-walk.held (is_held_among s q (x ∷ [])) (is_held_among s q rest)
          ∙ ap (λ z. (c.loop-walk.held || z) || is_held_among s q rest) here
          ∙ ap (λ z. z || is_held_among s q rest) (sym c.either-held.ensures);
    }
