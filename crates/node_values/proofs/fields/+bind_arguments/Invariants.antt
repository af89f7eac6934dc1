use Rattle.std.proofs.Common.{length}
use Rattle.node_values.proofs.fields.+bind_arguments.Given as goal

abbrev pub decreases-bind_arguments : goal.decreases-bind_arguments
decreases-bind_arguments l = length l.vars.now
