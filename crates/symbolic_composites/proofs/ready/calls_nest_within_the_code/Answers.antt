use Rattle.symbolic_composites.proofs.Nesting.{calls_nest_within_the_code}
use Rattle.symbolic_composites.proofs.ready.calls_nest_within_the_code.Goals as goal

pub returns : goal.returns
returns c = calls_nest_within_the_code
