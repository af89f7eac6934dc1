use Rattle.spec_core.proofs.Lists.{untrue}
use Rattle.spec_core.specs.Terms.{term_of}
use Rattle.spec_core.specs.Theories.{premise_of, theory_of}
use Rattle.equation_overlaps.proofs.Clashing.{at_constants}
use Rattle.equation_overlaps.proofs.exclusion.clash_at.Goals as goal

pub returns-in-None : goal.returns-in-None
returns-in-None c = (λ h. absurd (untrue h), λ x. absurd (c.in-None.ensures.none x.one x.gives_one))

pub returns-in-None-constant_given : goal.returns-in-None-constant_given
returns-in-None-constant_given c = (λ h. absurd (untrue h), λ x. absurd (c.in-None-constant_given.ensures.none x.other x.gives_other))

pub returns-in-Some-constant_given : goal.returns-in-Some-constant_given
returns-in-Some-constant_given c =
    at_constants (theory_of c.args.algebra.now) (premise_of c.args.one.now) (premise_of c.args.other.now) (term_of c.args.term.now)
    c.in-Some.c.0 c.in-Some-constant_given.d.0 c.in-Some.ensures.given c.in-Some.ensures.only c.in-Some-constant_given.ensures.given
    c.in-Some-constant_given.ensures.only
