use Rattle.std.proofs.Common.{rules, arith}
use Rattle.syntax_cursor.proofs.Steps.{steps}
use Rattle.data_parser.proofs.OperationNames.{reads_two_sorts}
use Rattle.data_parser.proofs.operation.two_sorts.Goals as goal

pub returns-in_err-pass-clause-halts : goal.returns-in_err-pass-clause-halts
returns-in_err-pass-clause-halts c = search (steps, rules)

pub returns-in_err-first-clause-halts : goal.returns-in_err-first-clause-halts
returns-in_err-first-clause-halts c = search (steps, rules)

pub returns-in_err-pass-2-clause-halts : goal.returns-in_err-pass-2-clause-halts
returns-in_err-pass-2-clause-halts c = search (steps, rules)

pub returns-in_err-second-clause-halts : goal.returns-in_err-second-clause-halts
returns-in_err-second-clause-halts c = search (steps, rules)

pub returns-in_err-pass-3-clause-halts : goal.returns-in_err-pass-3-clause-halts
returns-in_err-pass-3-clause-halts c = search (steps, rules)

pub returns-in_err-result-clause-halts : goal.returns-in_err-result-clause-halts
returns-in_err-result-clause-halts c = search (steps, rules)

pub returns-in_err-push-clause-halts : goal.returns-in_err-push-clause-halts
returns-in_err-push-clause-halts c = grind (arith, steps)

pub returns-in_err-push-2-clause-halts : goal.returns-in_err-push-2-clause-halts
returns-in_err-push-2-clause-halts c = grind (arith, steps)

pub returns-clause-read : goal.returns-clause-read
returns-clause-read c = grind (arith, steps, reads_two_sorts)
