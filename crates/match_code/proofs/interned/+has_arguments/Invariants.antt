use Rattle.std.proofs.Common.{length}
use Rattle.match_code.proofs.interned.+has_arguments.Given as goal

abbrev pub decreases-has_arguments : goal.decreases-has_arguments
decreases-has_arguments l = length l.args.now
