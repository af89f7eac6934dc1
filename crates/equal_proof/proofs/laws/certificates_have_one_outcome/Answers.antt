use Rattle.equal_proof.proofs.OneOutcome.{certificates_have_one_outcome}
use Rattle.equal_proof.proofs.laws.certificates_have_one_outcome.Goals as goal

pub returns : goal.returns
returns c = certificates_have_one_outcome
