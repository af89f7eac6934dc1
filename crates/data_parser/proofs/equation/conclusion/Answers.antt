use Rattle.std.proofs.Common.{rules}
use Rattle.syntax_cursor.proofs.Steps.{steps}
use Rattle.data_parser.proofs.equation.conclusion.Goals as goal

pub returns-in_err-premisses-clause-halts : goal.returns-in_err-premisses-clause-halts
returns-in_err-premisses-clause-halts c = search (steps, rules)

pub returns-in_err-pass-clause-halts : goal.returns-in_err-pass-clause-halts
returns-in_err-pass-clause-halts c = search (steps, rules)

pub returns-in_err-left-clause-halts : goal.returns-in_err-left-clause-halts
returns-in_err-left-clause-halts c = search (steps, rules)

pub returns-in_err-pass-2-clause-halts : goal.returns-in_err-pass-2-clause-halts
returns-in_err-pass-2-clause-halts c = search (steps, rules)

pub returns-in_err-right-clause-halts : goal.returns-in_err-right-clause-halts
returns-in_err-right-clause-halts c = search (steps, rules)

pub returns-clause-read : goal.returns-clause-read
returns-clause-read c = search (steps, rules)
