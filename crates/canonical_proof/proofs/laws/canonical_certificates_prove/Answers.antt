use Rattle.canonical_proof.proofs.Proving.{certificates_prove}
use Rattle.canonical_proof.proofs.laws.canonical_certificates_prove.Goals as goal

pub returns : goal.returns
returns c = certificates_prove
