use Rattle.std.specs.Prelude.{length}
use Rattle.command_words.proofs.number.+value_behind.Given as goal

abbrev pub decreases-value_behind : goal.decreases-value_behind
decreases-value_behind l = length l.digits.now
