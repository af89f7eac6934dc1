use Rattle.canonical_proof.proofs.Written.{have_certificates}
use Rattle.canonical_proof.proofs.laws.equal_terms_have_canonical_certificates.Goals as goal

pub returns : goal.returns
returns c = have_certificates
