use Rattle.std.proofs.Common.{length}
use Rattle.type_contents.proofs.standing.+has_operations.Given as goal

abbrev pub decreases-has_operations : goal.decreases-has_operations
decreases-has_operations l = length l.declarations.now
