use Rattle.session_traces.proofs.Sessions.{scripts_have_traces}
use Rattle.session_traces.proofs.laws.scripts_have_traces.Goals as goal

pub returns : goal.returns
returns c = scripts_have_traces
