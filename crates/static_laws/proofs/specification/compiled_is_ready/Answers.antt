use Rattle.static_laws.proofs.Ready.{compiled_ready}
use Rattle.static_laws.proofs.specification.compiled_is_ready.Goals as goal

pub returns : goal.returns
returns c = compiled_ready
