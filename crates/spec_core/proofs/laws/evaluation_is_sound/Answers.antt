use Rattle.spec_core.proofs.Sound.{evaluation_is_sound}
use Rattle.spec_core.proofs.laws.evaluation_is_sound.Goals as goal

pub returns : goal.returns
returns c = evaluation_is_sound
