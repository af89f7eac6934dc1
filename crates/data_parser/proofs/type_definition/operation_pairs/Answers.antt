use Rattle.std.proofs.Common.{rules}
use Rattle.syntax_cursor.proofs.Steps.{steps}
use Rattle.data_parser.proofs.type_definition.operation_pairs.Goals as goal

pub returns-in_err-pass-clause-halts : goal.returns-in_err-pass-clause-halts
returns-in_err-pass-clause-halts c = search (steps, rules)

pub returns-in_err-loose_list-clause-halts : goal.returns-in_err-loose_list-clause-halts
returns-in_err-loose_list-clause-halts c = search (steps, rules)

pub returns-in_ok-loose_list-clause-read : goal.returns-in_ok-loose_list-clause-read
returns-in_ok-loose_list-clause-read c = search (steps, rules)

pub returns-else-at-clause-read : goal.returns-else-at-clause-read
returns-else-at-clause-read c = search (steps, rules)
