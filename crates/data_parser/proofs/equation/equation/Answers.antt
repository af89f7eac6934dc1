use Rattle.std.proofs.Common.{rules, arith, refl}
use Rattle.lotos_ast.specs.Notation.{expression}
use Rattle.lotos_ast.specs.Reads.{reads_sequence, reads_left, reads_absent, reads_placed, reads_part}
use Rattle.syntax_cursor.proofs.Rows.{part_place}
use Rattle.syntax_cursor.proofs.Steps.{steps}
use Rattle.data_parser.proofs.equation.equation.Goals as goal

-- without premisses the left side is the first expression
pub returns-clause-read : goal.returns-clause-read
returns-clause-read c =
    reads_part (search rules) (reads_placed (part_place _ expression _ _ _ c.in_ok-first.ensures.read)
    (reads_sequence _ c.in_ok-first.ensures.read (reads_left (search rules) (reads_sequence _ c.in_ok-pass.ensures.read
    (reads_sequence _ c.in_ok-second.ensures.read (reads_absent (search rules) refl))))))

pub returns-in_err-first-clause-halts : goal.returns-in_err-first-clause-halts
returns-in_err-first-clause-halts c = search (steps, rules)

pub returns-in_err-rest-clause-halts : goal.returns-in_err-rest-clause-halts
returns-in_err-rest-clause-halts c = search (steps, rules)

pub returns-in_err-pass-clause-halts : goal.returns-in_err-pass-clause-halts
returns-in_err-pass-clause-halts c = search (steps, rules)

pub returns-in_err-second-clause-halts : goal.returns-in_err-second-clause-halts
returns-in_err-second-clause-halts c = search (steps, rules)

pub returns-in_err-rest-2-clause-halts : goal.returns-in_err-rest-2-clause-halts
returns-in_err-rest-2-clause-halts c = search (steps, rules)

pub returns-in_err-equation-clause-halts : goal.returns-in_err-equation-clause-halts
returns-in_err-equation-clause-halts c = grind (arith, steps)

pub returns-in_err-equation-2-clause-halts : goal.returns-in_err-equation-2-clause-halts
returns-in_err-equation-2-clause-halts c = grind (arith, steps)

pub returns-then-not-at-clause-read : goal.returns-then-not-at-clause-read
returns-then-not-at-clause-read c = grind (arith, steps)

pub returns-then-at_conclusion-clause-read : goal.returns-then-at_conclusion-clause-read
returns-then-at_conclusion-clause-read c = grind (arith, steps)
