use Rattle.spec_core.proofs.Definitions.{windows_are_in_order}
use Rattle.spec_core.proofs.laws.windows_are_in_order.Goals as goal

pub returns : goal.returns
returns c = windows_are_in_order
