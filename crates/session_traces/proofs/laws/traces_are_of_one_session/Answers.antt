use Rattle.session_traces.proofs.Replayed.{traces_are_of_one_session}
use Rattle.session_traces.proofs.laws.traces_are_of_one_session.Goals as goal

pub returns : goal.returns
returns c = traces_are_of_one_session
