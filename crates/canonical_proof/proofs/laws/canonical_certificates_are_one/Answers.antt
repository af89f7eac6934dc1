use Rattle.canonical_proof.proofs.One.{certificates_are_one}
use Rattle.canonical_proof.proofs.laws.canonical_certificates_are_one.Goals as goal

pub returns : goal.returns
returns c = certificates_are_one
