-- Worked numbers of possible agreements.
use Rattle.std.proofs.Common.{refl}
use Rattle.rule_origins.specs.Parts.{behaviour_at}
use Rattle.candidate_count.specs.Examples.{OffersAreAsWorked}

pub offers_are_as_worked : OffersAreAsWorked
unfolding behaviour_at
offers_are_as_worked = record {
  ended = refl;
  either = refl;
  offered = refl;
  taken = refl;
  tested = refl;
  four_tested = refl;
  one_tested = refl;
  hidden = refl;
  ending = refl;
  handing = refl;
  gates = refl;
  called = refl;
}
