use Rattle.std.proofs.Common.{refl}
use Rattle.symbolic_reach.proofs.laws.spreads_are_as_worked.Goals as goal

pub returns : goal.returns
returns c = record {
  ended = refl;
  either = refl;
  called = refl;
  values = refl;
  value_and_mark = refl;
  gates = refl;
  failing = refl;
  passing = refl;
  enabling = refl;
}
