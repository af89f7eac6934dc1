use Rattle.std.proofs.Common.{rules, arith}
use Rattle.syntax_cursor.proofs.Steps.{steps}
use Rattle.opening_parser.proofs.Openings.{values_complete}
use Rattle.opening_parser.proofs.heading.choice_over_values.Goals as goal

pub returns-in_err-names-clause-halts : goal.returns-in_err-names-clause-halts
returns-in_err-names-clause-halts c = search (steps, rules)

pub returns-in_err-pass-clause-halts : goal.returns-in_err-pass-clause-halts
returns-in_err-pass-clause-halts c = search (steps, rules)

pub returns-in_err-sort-clause-halts : goal.returns-in_err-sort-clause-halts
returns-in_err-sort-clause-halts c = search (steps, rules)

pub returns-in_err-list-clause-halts : goal.returns-in_err-list-clause-halts
returns-in_err-list-clause-halts c = search (steps, rules)

pub returns-in_err-pass-2-clause-halts : goal.returns-in_err-pass-2-clause-halts
returns-in_err-pass-2-clause-halts c = search (steps, rules)

pub returns-in_err-insert-clause-halts : goal.returns-in_err-insert-clause-halts
returns-in_err-insert-clause-halts c = grind (arith, steps)

pub returns-in_err-insert-2-clause-halts : goal.returns-in_err-insert-2-clause-halts
returns-in_err-insert-2-clause-halts c = grind (arith, steps)

pub returns-clause-read : goal.returns-clause-read
returns-clause-read c =
    values_complete _ _ _ _ _ _ _ _ _ _ _ _ c.insert.new.self c.in_ok-names.names.items c.in_ok-list.list.items c.insert-2.new.self
    c.requires.here c.in_ok-names.ensures.read c.in_ok-pass.ensures.read c.in_ok-sort.ensures.read c.in_ok-list.ensures.read
    c.place-brackets.ensures c.in_ok-pass-2.ensures.read (search rules) (search rules)
