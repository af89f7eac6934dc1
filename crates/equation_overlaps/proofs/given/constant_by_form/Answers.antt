use Rattle.spec_core.specs.Terms.{term_of}
use Rattle.spec_core.specs.Theories.{theory_of}
use Rattle.equation_overlaps.proofs.Giving.{form_none}
use Rattle.equation_overlaps.proofs.given.constant_by_form.Goals as goal

pub returns-in-None-equal_constant-clause-none : goal.returns-in-None-equal_constant-clause-none
returns-in-None-equal_constant-clause-none c =
    form_none (theory_of c.args.algebra.now) (term_of c.args.premise.now.0) (term_of c.args.premise.now.1) (term_of c.args.term.now)
    c.denied.result c.in-None.ensures.none c.in-None-equal_constant.ensures.none c.denied.ensures.none
