use Rattle.std.proofs.Common.{length}
use Rattle.data_fits.proofs.fits.+operations_fit.Given as goal

abbrev pub decreases-operations_fit : goal.decreases-operations_fit
decreases-operations_fit l = length l.all.now
