use Rattle.spec_core.specs.Terms.{term_of}
use Rattle.spec_core.specs.Theories.{theory_of}
use Rattle.equation_overlaps.proofs.Giving.{denies_none}
use Rattle.equation_overlaps.proofs.given.denied.Goals as goal

pub returns-in-Some-operation_over-clause-none : goal.returns-in-Some-operation_over-clause-none
returns-in-Some-operation_over-clause-none c =
    denies_none (theory_of c.args.algebra.now) (term_of c.args.premise.now.0) (term_of c.args.premise.now.1) (term_of c.args.term.now)
    c.in-Some-operation_over.op.0 c.in-Some.yes.0 c.in-Some-operation_over.ensures.found c.in-Some.ensures.found c.false_of.result c.false_of.ensures.none
