use Rattle.equation_overlaps.proofs.Symmetric.{symmetric}
use Rattle.equation_overlaps.proofs.laws.being_apart_is_symmetric.Goals as goal

pub returns : goal.returns
returns c = symmetric
