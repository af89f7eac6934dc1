use Rattle.std.proofs.Common.{rules, arith}
use Rattle.syntax_cursor.proofs.Steps.{steps}
use Rattle.opening_parser.proofs.Chosen.{guard_halts}
use Rattle.opening_parser.proofs.Openings.{guard_leads}
use Rattle.opening_parser.proofs.prefix.guarded.Goals as goal

pub returns-in_err-guard-clause-halts : goal.returns-in_err-guard-clause-halts
returns-in_err-guard-clause-halts c = search (guard_halts, steps, rules)

pub returns-in_err-pass-clause-halts : goal.returns-in_err-pass-clause-halts
returns-in_err-pass-clause-halts c = search (guard_halts, steps, rules)

pub returns-clause-read : goal.returns-clause-read
returns-clause-read c = grind (arith, guard_leads)
