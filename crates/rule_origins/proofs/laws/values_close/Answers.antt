use Rattle.rule_origins.proofs.Reading.{values_close}
use Rattle.rule_origins.proofs.laws.values_close.Goals as goal

pub returns : goal.returns
returns c = values_close
