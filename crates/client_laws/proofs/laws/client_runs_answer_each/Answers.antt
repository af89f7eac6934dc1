use Rattle.client_laws.proofs.Clients.{client_runs_answer_each}
use Rattle.client_laws.proofs.laws.client_runs_answer_each.Goals as goal

pub returns : goal.returns
returns c = client_runs_answer_each
