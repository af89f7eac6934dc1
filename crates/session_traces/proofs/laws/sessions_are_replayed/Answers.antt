use Rattle.session_traces.proofs.Replayed.{sessions_are_replayed}
use Rattle.session_traces.proofs.laws.sessions_are_replayed.Goals as goal

pub returns : goal.returns
returns c = sessions_are_replayed
