use Rattle.std.proofs.Common.{length}
use Rattle.data_fits.proofs.fits.+premises_fit.Given as goal

abbrev pub decreases-premises_fit : goal.decreases-premises_fit
decreases-premises_fit l = length l.all.now
