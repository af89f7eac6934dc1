use Rattle.std.proofs.Common.{rules, arith}
use Rattle.syntax_cursor.proofs.Steps.{steps}
use Rattle.opening_parser.proofs.Openings.{gates_complete}
use Rattle.opening_parser.proofs.heading.choice_over_gates.Goals as goal

pub returns-in_err-pass-clause-halts : goal.returns-in_err-pass-clause-halts
returns-in_err-pass-clause-halts c = search (steps, rules)

pub returns-in_err-gates-clause-halts : goal.returns-in_err-gates-clause-halts
returns-in_err-gates-clause-halts c = search (steps, rules)

pub returns-in_err-choices-clause-halts : goal.returns-in_err-choices-clause-halts
returns-in_err-choices-clause-halts c = search (steps, rules)

pub returns-in_err-pass-2-clause-halts : goal.returns-in_err-pass-2-clause-halts
returns-in_err-pass-2-clause-halts c = search (steps, rules)

pub returns-in_err-insert-clause-halts : goal.returns-in_err-insert-clause-halts
returns-in_err-insert-clause-halts c = grind (arith, steps)

pub returns-clause-read : goal.returns-clause-read
returns-clause-read c = grind (arith, gates_complete)
