use Rattle.rule_origins.proofs.Handing.{handed_on_values_join}
use Rattle.rule_origins.proofs.laws.handed_on_values_join.Goals as goal

pub returns : goal.returns
returns c = handed_on_values_join
