use Rattle.std.proofs.Common.{rules}
use Rattle.syntax_cursor.proofs.Steps.{steps}
use Rattle.data_parser.proofs.expressions.optional_right.Goals as goal

pub returns-in_err-pass-clause-halts : goal.returns-in_err-pass-clause-halts
returns-in_err-pass-clause-halts c = search (steps, rules)

pub returns-in_err-expression-clause-halts : goal.returns-in_err-expression-clause-halts
returns-in_err-expression-clause-halts c = search (steps, rules)

pub returns-in_ok-expression-clause-read : goal.returns-in_ok-expression-clause-read
returns-in_ok-expression-clause-read c = search (steps, rules)

pub returns-else-at-clause-read : goal.returns-else-at-clause-read
returns-else-at-clause-read c = search (steps, rules)
