use Rattle.std.proofs.Common.{rules}
use Rattle.syntax_cursor.proofs.Steps.{steps}
use Rattle.behaviour_parser.proofs.spec.one_specification.Goals as goal

pub returns-in_err-pass-clause-halts : goal.returns-in_err-pass-clause-halts
returns-in_err-pass-clause-halts c = search (steps, rules)

pub returns-in_err-name-clause-halts : goal.returns-in_err-name-clause-halts
returns-in_err-name-clause-halts c = search (steps, rules)

pub returns-in_err-gates-clause-halts : goal.returns-in_err-gates-clause-halts
returns-in_err-gates-clause-halts c = search (steps, rules)

pub returns-in_err-pass-2-clause-halts : goal.returns-in_err-pass-2-clause-halts
returns-in_err-pass-2-clause-halts c = search (steps, rules)

pub returns-in_err-functionality-clause-halts : goal.returns-in_err-functionality-clause-halts
returns-in_err-functionality-clause-halts c = search (steps, rules)

pub returns-in_err-types-clause-halts : goal.returns-in_err-types-clause-halts
returns-in_err-types-clause-halts c = search (steps, rules)

pub returns-in_err-pass-3-clause-halts : goal.returns-in_err-pass-3-clause-halts
returns-in_err-pass-3-clause-halts c = search (steps, rules)

pub returns-in_err-behaviour-clause-halts : goal.returns-in_err-behaviour-clause-halts
returns-in_err-behaviour-clause-halts c = search (steps, rules)

pub returns-in_err-items-clause-halts : goal.returns-in_err-items-clause-halts
returns-in_err-items-clause-halts c = search (steps, rules)

pub returns-in_err-pass-4-clause-halts : goal.returns-in_err-pass-4-clause-halts
returns-in_err-pass-4-clause-halts c = search (steps, rules)

pub returns-clause-read : goal.returns-clause-read
returns-clause-read c = search (steps, rules)
