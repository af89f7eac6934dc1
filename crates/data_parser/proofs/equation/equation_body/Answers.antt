use Rattle.std.proofs.Common.{rules}
use Rattle.syntax_cursor.proofs.Steps.{steps}
use Rattle.data_parser.proofs.equation.equation_body.Goals as goal

pub returns-in_err-variables-clause-halts : goal.returns-in_err-variables-clause-halts
returns-in_err-variables-clause-halts c = search (steps, rules)

pub returns-in_err-parts-clause-halts : goal.returns-in_err-parts-clause-halts
returns-in_err-parts-clause-halts c = search (steps, rules)

pub returns-clause-read : goal.returns-clause-read
returns-clause-read c = search (steps, rules)
