use Rattle.std.proofs.Common.{rules, refl}
use Rattle.candidates.proofs.StandingFirst.{none_told}
use Rattle.candidates.proofs.searching.untold.Goals as goal

pub returns : goal.returns
returns c l = none_told _ _ l refl (search rules)
