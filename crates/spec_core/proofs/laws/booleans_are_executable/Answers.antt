use Rattle.spec_core.proofs.Examples.{booleans_are_executable}
use Rattle.spec_core.proofs.laws.booleans_are_executable.Goals as goal

pub returns : goal.returns
returns c = booleans_are_executable
