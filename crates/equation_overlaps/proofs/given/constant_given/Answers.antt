use Rattle.std.proofs.Common.{subst}
use Rattle.spec_core.specs.Constructors.{IsConstructor}
use Rattle.spec_core.specs.Terms.{term_of}
use Rattle.spec_core.specs.Theories.{premise_of, theory_of}
use Rattle.equation_overlaps.proofs.Giving.{one_constant}
use Rattle.spec_core.proofs.Lists.{untrue}
use Rattle.equation_overlaps.proofs.given.constant_given.Goals as goal

pub returns-in-None-clause-none : goal.returns-in-None-clause-none
returns-in-None-clause-none c = λ d g. c.in-None.ensures.none d g.1

pub returns-then-is_constructor-clause-only : goal.returns-then-is_constructor-clause-only
returns-then-is_constructor-clause-only c = λ d g.
    one_constant (theory_of c.args.algebra.now) (premise_of c.args.premise.now) (term_of c.args.term.now) d c.in-Some.found.0 g.1
    c.in-Some.ensures.found

pub returns-else-is_constructor-clause-none : goal.returns-else-is_constructor-clause-none
returns-else-is_constructor-clause-none c = λ d g.
    let same = one_constant (theory_of c.args.algebra.now) (premise_of c.args.premise.now) (term_of c.args.term.now) d c.in-Some.found.0 g.1
    c.in-Some.ensures.found in
    untrue (c.if-is_constructor.ensures.decides.1 (subst (IsConstructor (theory_of c.args.algebra.now)) same g.0))
