use Rattle.std.proofs.Common.{length}
use Rattle.symbolic_plans.proofs.operators.+put_gates.Given as goal

abbrev pub decreases-put_gates : goal.decreases-put_gates
decreases-put_gates l = length l.gates.now
