use Rattle.std.proofs.Common.{rules}
use Rattle.syntax_cursor.proofs.Steps.{steps}
use Rattle.data_parser.proofs.operation.operation_name.Goals as goal

pub returns-in_err-name-clause-halts : goal.returns-in_err-name-clause-halts
returns-in_err-name-clause-halts c = search (steps, rules)

pub returns-in_err-pass-clause-halts : goal.returns-in_err-pass-clause-halts
returns-in_err-pass-clause-halts c = search (steps, rules)

pub returns-in_err-name-2-clause-halts : goal.returns-in_err-name-2-clause-halts
returns-in_err-name-2-clause-halts c = search (steps, rules)

pub returns-in_err-pass-2-clause-halts : goal.returns-in_err-pass-2-clause-halts
returns-in_err-pass-2-clause-halts c = search (steps, rules)

pub returns-in_ok-name-clause-read : goal.returns-in_ok-name-clause-read
returns-in_ok-name-clause-read c = search (steps, rules)

pub returns-in_ok-pass-2-clause-read : goal.returns-in_ok-pass-2-clause-read
returns-in_ok-pass-2-clause-read c = search (steps, rules)
