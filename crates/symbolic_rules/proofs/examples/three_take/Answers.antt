use Rattle.symbolic_rules.proofs.Agreeing.{three_take}
use Rattle.symbolic_rules.proofs.examples.three_take.Goals as goal

pub returns : goal.returns
returns c = three_take
