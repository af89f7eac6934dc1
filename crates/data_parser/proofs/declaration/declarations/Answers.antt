use Rattle.std.proofs.Common.{rules}
use Rattle.syntax_cursor.proofs.Steps.{steps}
use Rattle.data_parser.proofs.declaration.declarations.Goals as goal

pub returns-in_err-list-clause-halts : goal.returns-in_err-list-clause-halts
returns-in_err-list-clause-halts c = search (steps, rules)

pub returns-clause-read : goal.returns-clause-read
returns-clause-read c = search (steps, rules)
