use Rattle.session_laws.proofs.Runs.{runs_are_driven}
use Rattle.session_laws.proofs.laws.runs_are_driven.Goals as goal

pub returns : goal.returns
returns c = runs_are_driven
