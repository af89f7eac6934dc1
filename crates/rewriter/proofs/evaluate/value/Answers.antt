use Rattle.spec_core.specs.Terms.{term_of}
use Rattle.spec_core.specs.Theories.{theory_of}
use Rattle.rewriter.proofs.Causes.{complete}
use Rattle.rewriter.proofs.evaluate.value.Goals as goal

pub returns-clause-complete : goal.returns-clause-complete
returns-clause-complete c = λ w.
    complete (theory_of c.args.algebra.now) (term_of c.args.term.now) c.args.budget c.evaluate.result c.evaluate.ensures.spent
    c.evaluate.ensures.too_large w
