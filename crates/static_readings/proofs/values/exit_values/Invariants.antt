use Rattle.std.proofs.Common.{map, take}
use Rattle.std.specs.Prelude.{option_map}
use Rattle.sort_overloads.specs.Judged.{Adds}
use Rattle.static_readings.specs.Offers.{AreExitValuesRead}
use Rattle.static_readings.specs.Views.{exit_value_at}
use Rattle.static_readings.proofs.values.exit_values.Given as goal

abbrev pub invariant-loop-one : goal.invariant-loop-one
invariant-loop-one l = Adds (AreExitValuesRead l.site (take l.one-index l.from) (option_map (map exit_value_at) (option_map (λ v. v.items) l.all))) l.initial.refusals.items l.refusals.items
