use Rattle.spec_core.proofs.Proofs.{proof_of, proved}
use Rattle.spec_core.proofs.laws.equal_terms_have_proofs.Goals as goal

pub returns : goal.returns
returns c = λ theory a b. (λ p. proof_of theory p, λ p. proved theory p.0 a b p.1)
