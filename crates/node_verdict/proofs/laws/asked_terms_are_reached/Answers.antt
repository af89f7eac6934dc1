use Rattle.node_verdict.proofs.Asked.{asked_terms_are_reached}
use Rattle.node_verdict.proofs.laws.asked_terms_are_reached.Goals as goal

pub returns : goal.returns
returns c = asked_terms_are_reached
