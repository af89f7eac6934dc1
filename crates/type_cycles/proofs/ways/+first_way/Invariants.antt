use Rattle.std.proofs.Common.{length}
use Rattle.type_cycles.proofs.ways.+first_way.Given as goal

abbrev pub decreases-first_way : goal.decreases-first_way
decreases-first_way l = length l.used.now
