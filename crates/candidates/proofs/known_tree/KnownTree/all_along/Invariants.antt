use Rattle.std.proofs.Common.{◌≡◌, length, map}
use Rattle.rule_model.specs.Derivations.{derivation_of}
use Rattle.candidate_search.specs.Searches.{query_of}
use Rattle.candidates.specs.Walks.{ahead}
use Rattle.candidates.specs.KnownTrees.{all_of_those, trees_for}
use Rattle.candidates.proofs.Stepping.{and_more}
use Rattle.candidates.proofs.known_tree.KnownTree.all_along.Given as goal

abbrev pub invariant-loop-those : goal.invariant-loop-those
invariant-loop-those l =
    let q = query_of l.search in
    all_of_those l.self q (trees_for l.self q) ≡ and_more (map derivation_of l.those.items) (all_of_those l.self q (ahead l.walk))

abbrev pub decreases-loop-those : goal.decreases-loop-those
decreases-loop-those l = length (ahead l.walk)
