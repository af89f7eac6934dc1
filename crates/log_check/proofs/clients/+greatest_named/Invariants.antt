use Rattle.std.specs.Prelude.{length}
use Rattle.log_check.proofs.clients.+greatest_named.Given as goal

abbrev pub decreases-greatest_named : goal.decreases-greatest_named
decreases-greatest_named l = length l.names.now
