use Rattle.symbolic_rules.proofs.Seen.{each_step_is_seen}
use Rattle.symbolic_rules.proofs.laws.each_step_is_seen.Goals as goal

pub returns : goal.returns
returns c = each_step_is_seen
