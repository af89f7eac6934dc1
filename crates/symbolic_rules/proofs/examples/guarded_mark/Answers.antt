use Rattle.symbolic_rules.proofs.Offering.{guarded_mark}
use Rattle.symbolic_rules.proofs.examples.guarded_mark.Goals as goal

pub returns : goal.returns
returns c = guarded_mark
