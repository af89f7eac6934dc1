use Rattle.std.proofs.Common.{length}
use Rattle.client_runs.proofs.run.+offer_all.Given as goal

abbrev pub decreases-offer_all : goal.decreases-offer_all
decreases-offer_all l = length l.wishes.now
