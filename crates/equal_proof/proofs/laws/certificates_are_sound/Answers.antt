use Rattle.equal_proof.proofs.Sound.{certificates_are_sound}
use Rattle.equal_proof.proofs.laws.certificates_are_sound.Goals as goal

pub returns : goal.returns
returns c = certificates_are_sound
