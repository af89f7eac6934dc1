use Rattle.std.proofs.Common.{arith, rules}
use Rattle.syntax_cursor.proofs.Steps.{steps}
use Rattle.opening_parser.proofs.exit.exit_values.Goals as goal

pub returns-in_err-inner-clause-halts : goal.returns-in_err-inner-clause-halts
returns-in_err-inner-clause-halts c = grind (arith, steps)

pub returns-in_err-pass-clause-halts : goal.returns-in_err-pass-clause-halts
returns-in_err-pass-clause-halts c = search (steps, rules)

pub returns-in_err-values-clause-halts : goal.returns-in_err-values-clause-halts
returns-in_err-values-clause-halts c = search (steps, rules)

pub returns-in_err-pass-2-clause-halts : goal.returns-in_err-pass-2-clause-halts
returns-in_err-pass-2-clause-halts c = search (steps, rules)

pub returns-in_ok-pass-2-clause-read : goal.returns-in_ok-pass-2-clause-read
returns-in_ok-pass-2-clause-read c = search (steps, rules)

pub returns-else-at-clause-read : goal.returns-else-at-clause-read
returns-else-at-clause-read c = search (steps, rules)
