use Rattle.static_laws.proofs.Readiness.{ready}
use Rattle.static_laws.proofs.compiled.assembled_is_ready.Goals as goal

pub returns : goal.returns
returns c = ready
