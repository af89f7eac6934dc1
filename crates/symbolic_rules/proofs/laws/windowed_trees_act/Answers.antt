use Rattle.symbolic_rules.proofs.Acting.{windowed_trees_act}
use Rattle.symbolic_rules.proofs.laws.windowed_trees_act.Goals as goal

pub returns : goal.returns
returns c = windowed_trees_act
