use Rattle.client_laws.proofs.Stopped.{runs_stop_for_reasons}
use Rattle.client_laws.proofs.laws.runs_stop_for_reasons.Goals as goal

pub returns : goal.returns
returns c = runs_stop_for_reasons
