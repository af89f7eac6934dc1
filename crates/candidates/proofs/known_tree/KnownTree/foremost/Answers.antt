use Rattle.std.proofs.lemmas.Result.{IfOk-weaker}
use Rattle.spec_core.specs.Theories.{theory_of}
use Rattle.candidate_composites.specs.Known.{sought_in}
use Rattle.candidate_search.specs.Searches.{query_of}
use Rattle.candidates.proofs.StandingFirst.{foremost_unlisted}
use Rattle.candidates.proofs.known_tree.KnownTree.foremost.Goals as goal

pub returns-in_ok-sought-in-Unlisted : goal.returns-in_ok-sought-in-Unlisted
returns-in_ok-sought-in-Unlisted c =
    let s = c.args.self.now in
    IfOk-weaker c.foremost_of.result _ _
    (λ f h. foremost_unlisted s (query_of c.args.search.now) f (sought_in c.in_ok-sought-in-Unlisted.sought) c.in-Unlisted.is
    c.in_ok-sought-in-Unlisted.ensures (h (theory_of s.algebra.now)))
    c.foremost_of.ensures.foremost
