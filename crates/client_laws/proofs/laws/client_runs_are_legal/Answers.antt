use Rattle.client_laws.proofs.Justified.{client_runs_are_legal}
use Rattle.client_laws.proofs.laws.client_runs_are_legal.Goals as goal

pub returns : goal.returns
returns c = client_runs_are_legal
