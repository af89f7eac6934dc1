use Rattle.std.specs.Prelude.{ℕ, ◌+◌, ◌*◌, max}
use Rattle.static_constructs.specs.declared.construct.Construct.TheViews.{size-Construct}
use Rattle.static_compiler.proofs.reader.+reading.Given as goal

-- the functions by the depth of their constructs, and among those of one depth in the order in which they call each other
abbrev pub decreases-read : goal.decreases-read
decreases-read l = 3 * size-Construct l.construct.now

abbrev pub decreases-read_around : goal.decreases-read_around
decreases-read_around l = 3 * size-Construct l.part.now + 1

abbrev pub decreases-read_part : goal.decreases-read_part
decreases-read_part l = 3 * size-Construct l.part.now + 1

abbrev pub decreases-read_choice : goal.decreases-read_choice
decreases-read_choice l = 3 * max (size-Construct l.left.now) (size-Construct l.right.now) + 2

abbrev pub decreases-read_disable : goal.decreases-read_disable
decreases-read_disable l = 3 * max (size-Construct l.left.now) (size-Construct l.right.now) + 2

abbrev pub decreases-read_parallel : goal.decreases-read_parallel
decreases-read_parallel l = 3 * max (size-Construct l.left.now) (size-Construct l.right.now) + 2

abbrev pub decreases-read_enable : goal.decreases-read_enable
decreases-read_enable l = 3 * max (size-Construct l.left.now) (size-Construct l.right.now) + 2
