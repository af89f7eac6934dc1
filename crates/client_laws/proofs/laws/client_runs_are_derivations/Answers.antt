use Rattle.client_laws.proofs.Clients.{client_runs_are_derivations}
use Rattle.client_laws.proofs.laws.client_runs_are_derivations.Goals as goal

pub returns : goal.returns
returns c = client_runs_are_derivations
