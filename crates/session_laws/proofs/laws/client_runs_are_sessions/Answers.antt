use Rattle.session_laws.proofs.Runs.{client_runs_are_sessions}
use Rattle.session_laws.proofs.laws.client_runs_are_sessions.Goals as goal

pub returns : goal.returns
returns c = client_runs_are_sessions
