use Rattle.rule_laws.proofs.Returning.{handing_on_is_after}
use Rattle.rule_laws.proofs.substitution.handing_on_is_after.Goals as goal

pub returns : goal.returns
returns c = handing_on_is_after
