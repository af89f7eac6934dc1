use Rattle.std.proofs.Common.{rules}
use Rattle.syntax_cursor.proofs.Steps.{steps}
use Rattle.opening_parser.proofs.prefix.optional_predicate.Goals as goal

pub returns-in_err-predicate-clause-halts : goal.returns-in_err-predicate-clause-halts
returns-in_err-predicate-clause-halts c = search (steps, rules)

pub returns-in_ok-predicate-clause-read : goal.returns-in_ok-predicate-clause-read
returns-in_ok-predicate-clause-read c = search (steps, rules)

pub returns-else-at-clause-read : goal.returns-else-at-clause-read
returns-else-at-clause-read c = search (steps, rules)
