use Rattle.std.proofs.Common.{arith, rules}
use Rattle.syntax_cursor.proofs.Steps.{steps}
use Rattle.opening_parser.proofs.Chosen.{hide_halts}
use Rattle.opening_parser.proofs.Openings.{hide_leads}
use Rattle.opening_parser.proofs.heading.hide.Goals as goal

pub returns-in_err-inner-clause-halts : goal.returns-in_err-inner-clause-halts
returns-in_err-inner-clause-halts c = grind (arith, steps)

pub returns-in_err-pass-clause-halts : goal.returns-in_err-pass-clause-halts
returns-in_err-pass-clause-halts c = search (hide_halts, steps, rules)

pub returns-in_err-gates-clause-halts : goal.returns-in_err-gates-clause-halts
returns-in_err-gates-clause-halts c = search (hide_halts, steps, rules)

pub returns-in_err-pass-2-clause-halts : goal.returns-in_err-pass-2-clause-halts
returns-in_err-pass-2-clause-halts c = search (hide_halts, steps, rules)

pub returns-clause-read : goal.returns-clause-read
returns-clause-read c = grind (arith, hide_leads)
