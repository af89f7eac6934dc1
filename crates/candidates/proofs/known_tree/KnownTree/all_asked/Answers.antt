use Rattle.std.proofs.Common.{◌∙◌, ap, length, nat_eq, rules}
use Rattle.candidate_search.specs.Searches.{query_of}
use Rattle.candidates.specs.KnownTrees.{trees_for}
use Rattle.candidates.proofs.StandingFirst.{undecided_at_gap}
use Rattle.candidates.proofs.known_tree.KnownTree.all_asked.Goals as goal

pub returns-then-not-is_none : goal.returns-then-not-is_none
returns-then-not-is_none c =
    let s = c.args.self.now in
    let q = query_of c.args.search in
    undecided_at_gap s q c.in_ok-foremost.foremost.alone c.in_ok-foremost.foremost.gaps.items (trees_for s q) c.in_ok-foremost.ensures
    c.is_none.result (c.is_none.ensures ∙ ap (λ gaps. nat_eq (length gaps) 0) c.deref.ensures.value) (search rules)
