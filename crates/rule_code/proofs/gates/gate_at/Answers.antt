use Rattle.rule_code.proofs.Places.{gate_there, gate_past}
use Rattle.rule_code.proofs.gates.gate_at.Goals as goal

pub returns-then-index-gates-clause-some : goal.returns-then-index-gates-clause-some
returns-then-index-gates-clause-some c = gate_there c.args.gates.now c.args.place c.if-place-eq0.false c.if-index-gates.true

pub returns-else-index-gates-clause-none : goal.returns-else-index-gates-clause-none
returns-else-index-gates-clause-none c = gate_past c.args.gates.now c.args.place c.if-index-gates.false
