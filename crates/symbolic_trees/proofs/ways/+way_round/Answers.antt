use Rattle.symbolic_trees.proofs.Rounds.{none_longer}
use Rattle.symbolic_trees.proofs.ways.+way_round.Goals as goal

pub returns-in-None : goal.returns-in-None
returns-in-None t c =
    none_longer c.args.choices.now c.in-len1-up.len_at_least (rw c.in-None.is at c.in_ok-way_round-in-len1-up.ensures)
