use Rattle.std.proofs.Common.{◌+◌, ◌*◌}
use Rattle.trace_reader.proofs.tree.+read_tree.Given as goal

abbrev pub decreases-read_both : goal.decreases-read_both
decreases-read_both l = 2 * l.depth + 1

abbrev pub decreases-read_gate_choice : goal.decreases-read_gate_choice
decreases-read_gate_choice l = 2 * l.depth + 1

abbrev pub decreases-read_value_choice : goal.decreases-read_value_choice
decreases-read_value_choice l = 2 * l.depth + 1

abbrev pub decreases-read_tree : goal.decreases-read_tree
decreases-read_tree l = 2 * l.depth
