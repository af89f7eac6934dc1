use Rattle.std.proofs.Common.{rules}
use Rattle.syntax_cursor.proofs.Steps.{steps}
use Rattle.behaviour_parser.proofs.functionality.functionality.Goals as goal

pub returns-in_err-pass-clause-halts : goal.returns-in_err-pass-clause-halts
returns-in_err-pass-clause-halts c = search (steps, rules)

pub returns-in_err-pass-2-clause-halts : goal.returns-in_err-pass-2-clause-halts
returns-in_err-pass-2-clause-halts c = search (steps, rules)

pub returns-in_err-sorts-clause-halts : goal.returns-in_err-sorts-clause-halts
returns-in_err-sorts-clause-halts c = search (steps, rules)

pub returns-in_ok-pass-clause-read : goal.returns-in_ok-pass-clause-read
returns-in_ok-pass-clause-read c = search (steps, rules)

pub returns-in_ok-sorts-clause-read : goal.returns-in_ok-sorts-clause-read
returns-in_ok-sorts-clause-read c = search (steps, rules)
