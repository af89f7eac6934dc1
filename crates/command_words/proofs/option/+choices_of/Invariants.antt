use Rattle.std.specs.Prelude.{length}
use Rattle.command_words.proofs.option.+choices_of.Given as goal

abbrev pub decreases-choices_of : goal.decreases-choices_of
decreases-choices_of l = length l.known.now
