use Rattle.std.proofs.Common.{map}
use Rattle.spec_core.specs.Terms.{term_of, terms}
use Rattle.cover_search.proofs.There.{weight, weights}
use Rattle.cover_search.proofs.opening.+there.Given as goal

abbrev pub decreases-operation_there : goal.decreases-operation_there
decreases-operation_there l = weight (term_of l.row.now)

abbrev pub decreases-operation_there_in : goal.decreases-operation_there_in
decreases-operation_there_in l = weights (terms (map term_of l.rows.now))
