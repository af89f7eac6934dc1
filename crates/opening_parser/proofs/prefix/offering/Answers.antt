use Rattle.std.proofs.Common.{rules, arith}
use Rattle.syntax_cursor.proofs.Steps.{steps}
use Rattle.opening_parser.proofs.Openings.{offering_leads}
use Rattle.opening_parser.proofs.prefix.offering.Goals as goal

pub returns-clause-read : goal.returns-clause-read
returns-clause-read c =
    offering_leads _ _ _ _ _ _ c.in_ok-first.first c.in_ok-offers.offers.items
    (record { offers = c.insert.new.self; predicate = c.in_ok-predicate.predicate }) c.in_ok-first.ensures.read c.in_ok-offers.ensures.read
    c.in_ok-predicate.ensures.read c.in_ok-pass.ensures.read (search rules)

pub returns-in_err-first-clause-halts : goal.returns-in_err-first-clause-halts
returns-in_err-first-clause-halts c = search (steps, rules)

pub returns-in_err-offers-clause-halts : goal.returns-in_err-offers-clause-halts
returns-in_err-offers-clause-halts c = search (steps, rules)

pub returns-in_err-predicate-clause-halts : goal.returns-in_err-predicate-clause-halts
returns-in_err-predicate-clause-halts c = search (steps, rules)

pub returns-in_err-pass-clause-halts : goal.returns-in_err-pass-clause-halts
returns-in_err-pass-clause-halts c = search (steps, rules)

pub returns-in_err-insert-clause-halts : goal.returns-in_err-insert-clause-halts
returns-in_err-insert-clause-halts c = grind (arith, steps)
