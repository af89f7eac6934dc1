use Rattle.symbolic_rules.proofs.Agreeing.{false_guard}
use Rattle.symbolic_rules.proofs.examples.false_guard.Goals as goal

pub returns : goal.returns
returns c = false_guard
