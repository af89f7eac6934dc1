use Rattle.std.proofs.Common.{rules, arith}
use Rattle.syntax_cursor.proofs.Steps.{steps}
use Rattle.opening_parser.proofs.Chosen.{internal_halts}
use Rattle.opening_parser.proofs.Openings.{halts_behind_placed, internal_leads}
use Rattle.opening_parser.proofs.prefix.internal.Goals as goal

pub returns-in_err-pass-clause-halts : goal.returns-in_err-pass-clause-halts
returns-in_err-pass-clause-halts c = search (internal_halts, steps, rules)

pub returns-in_err-pass-2-clause-halts : goal.returns-in_err-pass-2-clause-halts
returns-in_err-pass-2-clause-halts c = search (internal_halts, halts_behind_placed, steps, rules)

pub returns-clause-read : goal.returns-clause-read
returns-clause-read c = grind (arith, internal_leads)
