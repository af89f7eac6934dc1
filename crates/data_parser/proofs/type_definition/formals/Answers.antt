use Rattle.std.proofs.Common.{rules}
use Rattle.syntax_cursor.proofs.Steps.{steps}
use Rattle.data_parser.proofs.type_definition.formals.Goals as goal

pub returns-in_err-sorts-clause-halts : goal.returns-in_err-sorts-clause-halts
returns-in_err-sorts-clause-halts c = search (steps, rules)

pub returns-in_err-operations-clause-halts : goal.returns-in_err-operations-clause-halts
returns-in_err-operations-clause-halts c = search (steps, rules)

pub returns-in_err-equations-clause-halts : goal.returns-in_err-equations-clause-halts
returns-in_err-equations-clause-halts c = search (steps, rules)

pub returns-clause-read : goal.returns-clause-read
returns-clause-read c = search (steps, rules)
