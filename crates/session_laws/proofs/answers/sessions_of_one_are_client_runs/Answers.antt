use Rattle.session_laws.proofs.OneClient.{sessions_of_one_are_client_runs}
use Rattle.session_laws.proofs.answers.sessions_of_one_are_client_runs.Goals as goal

pub returns : goal.returns
returns c = sessions_of_one_are_client_runs
