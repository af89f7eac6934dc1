use Rattle.static_laws.proofs.CompiledOnce.{construct-one}
use Rattle.static_laws.proofs.compiled.constructs_are_one.Goals as goal

pub returns : goal.returns
returns c = construct-one
