use Rattle.std.proofs.Common.{refl, rules}
use Rattle.node_trees.specs.Shapes.{held_of}
use Rattle.board_tree.proofs.Moving.{moves_waiting}
use Rattle.board_tree.proofs.leaf.node_step.Goals as goal

pub returns-in_ok-done-in-None : goal.returns-in_ok-done-in-None
returns-in_ok-done-in-None c = record { moves = moves_waiting _ _ _ (held_of c.args.node.now) _ _ _ _ refl (search rules) (search rules) }
