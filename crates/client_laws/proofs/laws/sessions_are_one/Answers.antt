use Rattle.client_laws.proofs.OneRun.{sessions_are_one}
use Rattle.client_laws.proofs.laws.sessions_are_one.Goals as goal

pub returns : goal.returns
returns c = sessions_are_one
