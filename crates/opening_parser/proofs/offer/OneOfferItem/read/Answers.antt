use Rattle.std.proofs.Common.{rules}
use Rattle.syntax_cursor.proofs.Steps.{steps}
use Rattle.opening_parser.proofs.offer.OneOfferItem.read.Goals as goal

pub returns-in_err-pass-clause-halts : goal.returns-in_err-pass-clause-halts
returns-in_err-pass-clause-halts c = search (steps, rules)

pub returns-in_err-value-clause-halts : goal.returns-in_err-value-clause-halts
returns-in_err-value-clause-halts c = search (steps, rules)

pub returns-in_err-pass-2-clause-halts : goal.returns-in_err-pass-2-clause-halts
returns-in_err-pass-2-clause-halts c = search (steps, rules)

pub returns-in_err-names-clause-halts : goal.returns-in_err-names-clause-halts
returns-in_err-names-clause-halts c = search (steps, rules)

pub returns-in_err-pass-3-clause-halts : goal.returns-in_err-pass-3-clause-halts
returns-in_err-pass-3-clause-halts c = search (steps, rules)

pub returns-in_err-sort-clause-halts : goal.returns-in_err-sort-clause-halts
returns-in_err-sort-clause-halts c = search (steps, rules)

pub returns-in_ok-value-clause-read : goal.returns-in_ok-value-clause-read
returns-in_ok-value-clause-read c = search (steps, rules)

pub returns-in_ok-sort-clause-read : goal.returns-in_ok-sort-clause-read
returns-in_ok-sort-clause-read c = search (steps, rules)
