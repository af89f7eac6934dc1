use Rattle.symbolic_rules.proofs.Agreeing.{agreed_values}
use Rattle.symbolic_rules.proofs.examples.agreed_values.Goals as goal

pub returns : goal.returns
returns c = agreed_values
