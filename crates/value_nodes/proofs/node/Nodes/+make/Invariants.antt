use Rattle.std.proofs.Common.{length}
use Rattle.value_nodes.proofs.node.Nodes.+make.Given as goal

abbrev pub decreases-make : goal.decreases-make
decreases-make l = length l.values.now
