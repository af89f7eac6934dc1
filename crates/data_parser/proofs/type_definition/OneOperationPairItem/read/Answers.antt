use Rattle.std.proofs.Common.{rules}
use Rattle.syntax_cursor.proofs.Steps.{steps}
use Rattle.data_parser.proofs.type_definition.OneOperationPairItem.read.Goals as goal

pub returns-in_err-new-clause-halts : goal.returns-in_err-new-clause-halts
returns-in_err-new-clause-halts c = search (steps, rules)

pub returns-in_err-pass-clause-halts : goal.returns-in_err-pass-clause-halts
returns-in_err-pass-clause-halts c = search (steps, rules)

pub returns-in_err-old-clause-halts : goal.returns-in_err-old-clause-halts
returns-in_err-old-clause-halts c = search (steps, rules)

pub returns-clause-read : goal.returns-clause-read
returns-clause-read c = search (steps, rules)
