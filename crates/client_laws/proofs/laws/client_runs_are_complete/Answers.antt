use Rattle.client_laws.proofs.Stopped.{client_runs_are_complete}
use Rattle.client_laws.proofs.laws.client_runs_are_complete.Goals as goal

pub returns : goal.returns
returns c = client_runs_are_complete
