use Rattle.std.proofs.Common.{rules, arith}
use Rattle.syntax_cursor.proofs.Steps.{steps}
use Rattle.data_parser.proofs.type_definition.type_body.Goals as goal

pub returns-in_err-items-clause-halts : goal.returns-in_err-items-clause-halts
returns-in_err-items-clause-halts c = search (steps, rules)

pub returns-in_err-source-clause-halts : goal.returns-in_err-source-clause-halts
returns-in_err-source-clause-halts c = search (steps, rules)

pub returns-in_err-pass-clause-halts : goal.returns-in_err-pass-clause-halts
returns-in_err-pass-clause-halts c = search (steps, rules)

pub returns-in_err-pairs-clause-halts : goal.returns-in_err-pairs-clause-halts
returns-in_err-pairs-clause-halts c = search (steps, rules)

pub returns-in_err-pass-2-clause-halts : goal.returns-in_err-pass-2-clause-halts
returns-in_err-pass-2-clause-halts c = search (steps, rules)

pub returns-in_err-actuals-clause-halts : goal.returns-in_err-actuals-clause-halts
returns-in_err-actuals-clause-halts c = search (steps, rules)

pub returns-in_err-pass-3-clause-halts : goal.returns-in_err-pass-3-clause-halts
returns-in_err-pass-3-clause-halts c = search (steps, rules)

pub returns-in_err-pairs-2-clause-halts : goal.returns-in_err-pairs-2-clause-halts
returns-in_err-pairs-2-clause-halts c = search (steps, rules)

pub returns-in_err-rest-clause-halts : goal.returns-in_err-rest-clause-halts
returns-in_err-rest-clause-halts c = search (steps, rules)

pub returns-in_err-items-2-clause-halts : goal.returns-in_err-items-2-clause-halts
returns-in_err-items-2-clause-halts c = search (steps, rules)

pub returns-in_err-body-clause-halts : goal.returns-in_err-body-clause-halts
returns-in_err-body-clause-halts c = grind (arith, steps)

pub returns-then-not-at-clause-read : goal.returns-then-not-at-clause-read
returns-then-not-at-clause-read c = grind (arith, steps)

pub returns-in_ok-pairs-clause-read : goal.returns-in_ok-pairs-clause-read
returns-in_ok-pairs-clause-read c = search (steps, rules)

pub returns-in_ok-pairs-2-clause-read : goal.returns-in_ok-pairs-2-clause-read
returns-in_ok-pairs-2-clause-read c = search (steps, rules)

pub returns-in_ok-body-clause-read : goal.returns-in_ok-body-clause-read
returns-in_ok-body-clause-read c = grind (arith, steps)
