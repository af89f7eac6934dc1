use Rattle.std.proofs.Common.{arith}
use Rattle.syntax_cursor.proofs.Steps.{steps}
use Rattle.opening_parser.proofs.opening.read_opening.Goals as goal

pub returns-in_err-new-clause-halts : goal.returns-in_err-new-clause-halts
returns-in_err-new-clause-halts c = grind (arith, steps)

pub returns-in_err-new-2-clause-halts : goal.returns-in_err-new-2-clause-halts
returns-in_err-new-2-clause-halts c = grind (arith, steps)

pub returns-in_err-new-3-clause-halts : goal.returns-in_err-new-3-clause-halts
returns-in_err-new-3-clause-halts c = grind (arith, steps)

pub returns-in_err-new-4-clause-halts : goal.returns-in_err-new-4-clause-halts
returns-in_err-new-4-clause-halts c = grind (arith, steps)

pub returns-in_err-new-5-clause-halts : goal.returns-in_err-new-5-clause-halts
returns-in_err-new-5-clause-halts c = grind (arith, steps)

pub returns-in_err-new-6-clause-halts : goal.returns-in_err-new-6-clause-halts
returns-in_err-new-6-clause-halts c = grind (arith, steps)
