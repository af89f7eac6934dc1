use Rattle.std.proofs.Common.{rules}
use Rattle.syntax_cursor.proofs.Steps.{steps}
use Rattle.data_parser.proofs.equation.EquationsOfSortItem.read.Goals as goal

pub returns-in_err-pass-clause-halts : goal.returns-in_err-pass-clause-halts
returns-in_err-pass-clause-halts c = search (steps, rules)

pub returns-in_err-sort-clause-halts : goal.returns-in_err-sort-clause-halts
returns-in_err-sort-clause-halts c = search (steps, rules)

pub returns-in_err-variables-clause-halts : goal.returns-in_err-variables-clause-halts
returns-in_err-variables-clause-halts c = search (steps, rules)

pub returns-in_err-equations-clause-halts : goal.returns-in_err-equations-clause-halts
returns-in_err-equations-clause-halts c = search (steps, rules)

pub returns-clause-read : goal.returns-clause-read
returns-clause-read c = search (steps, rules)
