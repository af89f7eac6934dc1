use Rattle.client_laws.proofs.Derivations.{runs_are_derivations}
use Rattle.client_laws.proofs.laws.runs_are_derivations.Goals as goal

pub returns : goal.returns
returns c = runs_are_derivations
