use Rattle.std.proofs.Common.{length}
use Rattle.symbolic_trees.proofs.choices.+put_choices.Given as goal

abbrev pub decreases-put_choices : goal.decreases-put_choices
decreases-put_choices l = length l.columns.now
