use Rattle.std.proofs.Common.{length, ◌+◌, ◌*◌}
use Rattle.behaviour_parser.proofs.behaviour.+behaviour.Given as goal

abbrev pub decreases-behaviour : goal.decreases-behaviour
decreases-behaviour l = 5 * length l.cursor.now + 4

abbrev pub decreases-disable : goal.decreases-disable
decreases-disable l = 5 * length l.cursor.now + 3

abbrev pub decreases-parallel : goal.decreases-parallel
decreases-parallel l = 5 * length l.cursor.now + 2

abbrev pub decreases-choice : goal.decreases-choice
decreases-choice l = 5 * length l.cursor.now + 1

abbrev pub decreases-unary : goal.decreases-unary
decreases-unary l = 5 * length l.cursor.now
