use Rattle.std.proofs.Common.{◌+◌, ◌*◌, length}
use Rattle.symbolic_trees.proofs.places.+nth_slots.Given as goal

abbrev pub decreases-nth_slots : goal.decreases-nth_slots
decreases-nth_slots l = 2 * length l.takes.now

abbrev pub decreases-nth_taken : goal.decreases-nth_taken
decreases-nth_taken l = 2 * length l.takes.now + 1
