use Rattle.client_laws.proofs.Justified.{justified_logs_are_derivations}
use Rattle.client_laws.proofs.laws.justified_logs_are_derivations.Goals as goal

pub returns : goal.returns
returns c = justified_logs_are_derivations
