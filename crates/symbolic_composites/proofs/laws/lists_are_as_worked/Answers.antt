use Rattle.std.proofs.Common.{refl}
use Rattle.symbolic_composites.proofs.laws.lists_are_as_worked.Goals as goal

pub returns : goal.returns
returns c = record {
  leftmost_is_slowest = refl;
  mark_is_last = refl;
  offer_gives = refl;
  values_in_order = refl;
  told_and_given = refl;
  chosen_together = refl;
  hidden = refl;
  alone = refl;
  left_is_slowest = refl;
  composites_before_values = refl;
  gates_in_order = refl;
  disabling = refl;
  guards = refl;
  called = refl;
}
