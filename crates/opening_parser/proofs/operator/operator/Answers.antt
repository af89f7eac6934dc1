use Rattle.std.proofs.Common.{rules}
use Rattle.syntax_cursor.proofs.Steps.{steps}
use Rattle.opening_parser.proofs.operator.operator.Goals as goal

pub returns-in_err-pass-clause-halts : goal.returns-in_err-pass-clause-halts
returns-in_err-pass-clause-halts c = search (steps, rules)

pub returns-in_err-pass-2-clause-halts : goal.returns-in_err-pass-2-clause-halts
returns-in_err-pass-2-clause-halts c = search (steps, rules)

pub returns-in_err-pass-3-clause-halts : goal.returns-in_err-pass-3-clause-halts
returns-in_err-pass-3-clause-halts c = search (steps, rules)

pub returns-in_err-gates-clause-halts : goal.returns-in_err-gates-clause-halts
returns-in_err-gates-clause-halts c = search (steps, rules)

pub returns-in_err-pass-4-clause-halts : goal.returns-in_err-pass-4-clause-halts
returns-in_err-pass-4-clause-halts c = search (steps, rules)

pub returns-in_ok-pass-clause-read : goal.returns-in_ok-pass-clause-read
returns-in_ok-pass-clause-read c = search (steps, rules)

pub returns-in_ok-pass-2-clause-read : goal.returns-in_ok-pass-2-clause-read
returns-in_ok-pass-2-clause-read c = search (steps, rules)

pub returns-in_ok-pass-4-clause-read : goal.returns-in_ok-pass-4-clause-read
returns-in_ok-pass-4-clause-read c = search (steps, rules)
