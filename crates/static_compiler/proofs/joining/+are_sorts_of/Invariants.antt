use Rattle.std.proofs.Common.{length}
use Rattle.static_compiler.proofs.joining.+are_sorts_of.Given as goal

abbrev pub decreases-are_sorts_of : goal.decreases-are_sorts_of
decreases-are_sorts_of l = length l.sorts.now
