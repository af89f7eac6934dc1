use Rattle.symbolic_composites.proofs.Shown.{shown_is_admitted}
use Rattle.symbolic_composites.proofs.laws.shown_is_admitted.Goals as goal

pub returns : goal.returns
returns c = shown_is_admitted
