use Rattle.candidate_laws.proofs.Testing.{asked_can_be_tested}
use Rattle.candidate_laws.proofs.tree_laws.asked_can_be_tested.Goals as goal

pub returns : goal.returns
returns c = asked_can_be_tested
