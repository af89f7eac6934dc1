use Rattle.std.proofs.Common.{refl}
use Rattle.decision_trees.specs.Rules.{any, any_beyond}
use Rattle.board_lists.proofs.list.known_trees.Goals as goal

pub first_trees-requires : goal.first_trees-requires
first_trees-requires c = record { all = record { query = any; same = refl; all = tt } }

pub first_trees-requires-in-Trees : goal.first_trees-requires-in-Trees
first_trees-requires-in-Trees c = record { all = record { query = any_beyond; same = refl; all = tt } }
