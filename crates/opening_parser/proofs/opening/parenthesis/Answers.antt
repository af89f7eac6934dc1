use Rattle.std.proofs.Common.{arith, rules}
use Rattle.syntax_cursor.proofs.Steps.{steps}
use Rattle.opening_parser.proofs.Chosen.{parenthesis_halts}
use Rattle.opening_parser.proofs.Openings.{parenthesis_leads}
use Rattle.opening_parser.proofs.opening.parenthesis.Goals as goal

pub returns-in_err-inner-clause-halts : goal.returns-in_err-inner-clause-halts
returns-in_err-inner-clause-halts c = grind (arith, steps)

pub returns-in_err-pass-clause-halts : goal.returns-in_err-pass-clause-halts
returns-in_err-pass-clause-halts c = search (parenthesis_halts, steps, rules)

pub returns-clause-read : goal.returns-clause-read
returns-clause-read c = grind (arith, parenthesis_leads)
