use Rattle.std.proofs.Common.{arith, rules}
use Rattle.syntax_cursor.proofs.Steps.{steps}
use Rattle.opening_parser.proofs.Chosen.{choice_halts}
use Rattle.opening_parser.proofs.Openings.{choice_leads}
use Rattle.opening_parser.proofs.heading.choice.Goals as goal

pub returns-in_err-inner-clause-halts : goal.returns-in_err-inner-clause-halts
returns-in_err-inner-clause-halts c = grind (arith, steps)

pub returns-in_err-pass-clause-halts : goal.returns-in_err-pass-clause-halts
returns-in_err-pass-clause-halts c = search (choice_halts, steps, rules)

pub returns-in_err-name-clause-halts : goal.returns-in_err-name-clause-halts
returns-in_err-name-clause-halts c = search (choice_halts, steps, rules)

pub returns-in_err-heading-clause-halts : goal.returns-in_err-heading-clause-halts
returns-in_err-heading-clause-halts c = search (choice_halts, steps, rules)

pub returns-in_err-heading-2-clause-halts : goal.returns-in_err-heading-2-clause-halts
returns-in_err-heading-2-clause-halts c = search (choice_halts, steps, rules)

pub returns-in_ok-heading-clause-read : goal.returns-in_ok-heading-clause-read
returns-in_ok-heading-clause-read c = grind (arith, choice_leads)

pub returns-in_ok-heading-2-clause-read : goal.returns-in_ok-heading-2-clause-read
returns-in_ok-heading-2-clause-read c = grind (arith, choice_leads)
