use Rattle.std.proofs.Common.{rules}
use Rattle.syntax_cursor.proofs.Steps.{steps}
use Rattle.opening_parser.proofs.gates.optional_gates.Goals as goal

pub returns-in_err-gate_list-clause-halts : goal.returns-in_err-gate_list-clause-halts
returns-in_err-gate_list-clause-halts c = search (steps, rules)

pub returns-in_ok-gate_list-clause-read : goal.returns-in_ok-gate_list-clause-read
returns-in_ok-gate_list-clause-read c = search (steps, rules)

pub returns-else-at-clause-read : goal.returns-else-at-clause-read
returns-else-at-clause-read c = search (steps, rules)
