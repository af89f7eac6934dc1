use Rattle.std.proofs.Common.{rules, ◌≤◌, length, arith, subst}
use Rattle.spec_core.specs.Terms.{term_of}
use Rattle.spec_core.specs.Theories.{theory_of}
use Rattle.rewriter.proofs.Calls.{counted}
use Rattle.match_code.specs.States.{StandsAt}
use Rattle.match_code.proofs.moves.take_step.Goals as goal

pub take_up-requires-clause-stands : goal.take_up-requires-clause-stands
take_up-requires-clause-stands c =
    subst (StandsAt (theory_of c.args.algebra.now) (term_of c.args.term.now) c.args.budget c.args.store.now c.args.runs.now)
    c.in-Call.is c.requires.stands

pub build-requires-clause-stands : goal.build-requires-clause-stands
build-requires-clause-stands c =
    subst (StandsAt (theory_of c.args.algebra.now) (term_of c.args.term.now) c.args.budget c.args.store.now c.args.runs.now)
    c.in-Call.is c.requires.stands

pub build-requires-clause-constructor : goal.build-requires-clause-constructor
build-requires-clause-constructor c =
    let past : length c.args.algebra.now.equations.items ≤ c.first.result = search rules in
    let out : length (theory_of c.args.algebra.now).equations ≤ c.first.result = omega (arith, past, counted c.args.algebra.now) in
    λ j m hd. c.first.ensures.skipped j (omega (arith, m, out)) m hd
