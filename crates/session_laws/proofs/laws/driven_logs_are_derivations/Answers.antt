use Rattle.session_laws.proofs.Legal.{driven_logs_are_derivations}
use Rattle.session_laws.proofs.laws.driven_logs_are_derivations.Goals as goal

pub returns : goal.returns
returns c = driven_logs_are_derivations
