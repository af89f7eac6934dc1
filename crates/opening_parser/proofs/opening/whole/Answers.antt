use Rattle.std.proofs.Common.{rules, arith}
use Rattle.syntax_cursor.proofs.Steps.{steps}
use Rattle.opening_parser.proofs.Chosen.{last_halts}
use Rattle.opening_parser.proofs.Openings.{exit_reads, stop_reads}
use Rattle.opening_parser.proofs.opening.whole.Goals as goal

pub returns-in_err-pass-clause-halts : goal.returns-in_err-pass-clause-halts
returns-in_err-pass-clause-halts c = search (last_halts, steps, rules)

pub returns-in_err-values-clause-halts : goal.returns-in_err-values-clause-halts
returns-in_err-values-clause-halts c = search (last_halts, steps, rules)

pub returns-in_err-pass-2-clause-halts : goal.returns-in_err-pass-2-clause-halts
returns-in_err-pass-2-clause-halts c = search (last_halts, steps, rules)

pub returns-in_err-atomic-clause-halts : goal.returns-in_err-atomic-clause-halts
returns-in_err-atomic-clause-halts c = grind (arith, steps)

pub returns-in_err-atomic-2-clause-halts : goal.returns-in_err-atomic-2-clause-halts
returns-in_err-atomic-2-clause-halts c = grind (arith, steps)

pub returns-in_ok-atomic-clause-read : goal.returns-in_ok-atomic-clause-read
returns-in_ok-atomic-clause-read c = grind (arith, exit_reads)

pub returns-in_ok-atomic-2-clause-read : goal.returns-in_ok-atomic-2-clause-read
returns-in_ok-atomic-2-clause-read c = grind (arith, stop_reads)
