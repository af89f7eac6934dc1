use Rattle.spec_core.proofs.Definitions.{windows_hold_ground_terms}
use Rattle.spec_core.proofs.laws.windows_hold_ground_terms.Goals as goal

pub returns : goal.returns
returns c = windows_hold_ground_terms
