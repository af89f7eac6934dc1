use Rattle.static_laws.proofs.Readings.{reading-sort}
use Rattle.static_laws.proofs.compiled.readings_have_sorts.Goals as goal

pub returns : goal.returns
returns c = reading-sort
