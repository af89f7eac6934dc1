use Rattle.std.proofs.Common.{rules}
use Rattle.syntax_cursor.proofs.Steps.{steps}
use Rattle.script_text.proofs.written.OneOfferItem.read.Goals as goal

pub returns-in_err-gate-clause-halts : goal.returns-in_err-gate-clause-halts
returns-in_err-gate-clause-halts c = search (steps, rules)

pub returns-in_err-fields-clause-halts : goal.returns-in_err-fields-clause-halts
returns-in_err-fields-clause-halts c = search (steps, rules)

pub returns-clause-read : goal.returns-clause-read
returns-clause-read c = search (steps, rules)
