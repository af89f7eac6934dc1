use Rattle.client_laws.proofs.OneRun.{no_other_session}
use Rattle.client_laws.proofs.laws.no_other_session.Goals as goal

pub returns : goal.returns
returns c = no_other_session
