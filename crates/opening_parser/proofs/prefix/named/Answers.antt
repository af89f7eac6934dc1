use Rattle.std.proofs.Common.{rules, arith}
use Rattle.syntax_cursor.proofs.Steps.{steps}
use Rattle.opening_parser.proofs.Chosen.{named_halts}
use Rattle.opening_parser.proofs.Openings.{same_prefix, plain_leads, offered_leads, call_reads}
use Rattle.opening_parser.proofs.prefix.named.Goals as goal

pub returns-in_err-name-clause-halts : goal.returns-in_err-name-clause-halts
returns-in_err-name-clause-halts c = search (named_halts, steps, rules)

pub returns-in_err-pass-clause-halts : goal.returns-in_err-pass-clause-halts
returns-in_err-pass-clause-halts c = search (named_halts, steps, rules)

pub returns-in_err-new-clause-halts : goal.returns-in_err-new-clause-halts
returns-in_err-new-clause-halts c = grind (arith, steps)

pub returns-in_err-offers-clause-halts : goal.returns-in_err-offers-clause-halts
returns-in_err-offers-clause-halts c = search (named_halts, steps, rules)

pub returns-in_err-new-2-clause-halts : goal.returns-in_err-new-2-clause-halts
returns-in_err-new-2-clause-halts c = grind (arith, steps)

pub returns-in_err-gates-clause-halts : goal.returns-in_err-gates-clause-halts
returns-in_err-gates-clause-halts c = search (named_halts, steps, rules)

pub returns-in_err-values-clause-halts : goal.returns-in_err-values-clause-halts
returns-in_err-values-clause-halts c = search (named_halts, steps, rules)

pub returns-in_err-atomic-clause-halts : goal.returns-in_err-atomic-clause-halts
returns-in_err-atomic-clause-halts c = grind (arith, steps)

pub returns-in_ok-new-clause-read : goal.returns-in_ok-new-clause-read
returns-in_ok-new-clause-read c = grind (arith, same_prefix, plain_leads)

pub returns-in_ok-new-2-clause-read : goal.returns-in_ok-new-2-clause-read
returns-in_ok-new-2-clause-read c = grind (arith, same_prefix, offered_leads)

pub returns-in_ok-atomic-clause-read : goal.returns-in_ok-atomic-clause-read
returns-in_ok-atomic-clause-read c = grind (arith, call_reads)
