use Rattle.std.proofs.Common.{rules}
use Rattle.syntax_cursor.proofs.Steps.{steps}
use Rattle.behaviour_parser.proofs.accepts.accepts.Goals as goal

pub returns-in_err-pass-clause-halts : goal.returns-in_err-pass-clause-halts
returns-in_err-pass-clause-halts c = search (steps, rules)

pub returns-in_err-declarations-clause-halts : goal.returns-in_err-declarations-clause-halts
returns-in_err-declarations-clause-halts c = search (steps, rules)

pub returns-in_err-pass-2-clause-halts : goal.returns-in_err-pass-2-clause-halts
returns-in_err-pass-2-clause-halts c = search (steps, rules)

pub returns-in_ok-pass-2-clause-read : goal.returns-in_ok-pass-2-clause-read
returns-in_ok-pass-2-clause-read c = search (steps, rules)

pub returns-else-at-clause-read : goal.returns-else-at-clause-read
returns-else-at-clause-read c = search (steps, rules)
