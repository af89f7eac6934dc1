use Rattle.std.proofs.Common.{length}
use Rattle.symbolic_trees.proofs.ways.+way_round.Given as goal

abbrev pub decreases-way_round : goal.decreases-way_round
decreases-way_round l = length l.choices.now
