use Rattle.std.proofs.Common.{rules}
use Rattle.candidate_search.specs.Searches.{query_of}
use Rattle.candidates.specs.Walks.{met_of, ahead}
use Rattle.candidates.specs.KnownTrees.{all_of_those, trees_for}
use Rattle.candidates.proofs.Asking.{all_found}
use Rattle.candidates.proofs.known_tree.KnownTree.all_along.Goals as goal

pub loop-those-preserved : goal.loop-those-preserved
loop-those-preserved c =
    let s = c.args.self.now in
    let q = query_of c.args.search in
    all_found s q (ahead c.loop-those.walk) (met_of c.in-Some.met) (ahead c.next.new.self) (search rules)
    (all_of_those s q (trees_for s q)) c.loop-those.those.items c.push.new.self.items c.in-Is.tree c.in_ok-first_at.field-0
    c.loop-those.invariant (search rules) (search rules) (search rules)
