use Rattle.std.proofs.Common.{map}
use Rattle.spec_core.specs.Terms.{terms, term_of}
use Rattle.rewriter.proofs.Weights.{weight, weights}
use Rattle.match_code.proofs.rights.+flattening.Given as goal

abbrev pub decreases-flatten : goal.decreases-flatten
decreases-flatten l = weight (term_of l.term.now)

abbrev pub decreases-flatten_all : goal.decreases-flatten_all
decreases-flatten_all l = weights (terms (map term_of l.all.now))
