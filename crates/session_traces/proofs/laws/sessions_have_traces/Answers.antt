use Rattle.session_traces.proofs.Sessions.{sessions_have_traces}
use Rattle.session_traces.proofs.laws.sessions_have_traces.Goals as goal

pub returns : goal.returns
returns c = sessions_have_traces
