use Rattle.client_laws.proofs.Justified.{runs_are_justified}
use Rattle.client_laws.proofs.laws.runs_are_justified.Goals as goal

pub returns : goal.returns
returns c = runs_are_justified
