use Rattle.symbolic_rules.proofs.Nothing.{no_tree_for_the_offer_none_meets}
use Rattle.symbolic_rules.proofs.laws.no_tree_for_the_offer_none_meets.Goals as goal

pub returns : goal.returns
returns c = no_tree_for_the_offer_none_meets
