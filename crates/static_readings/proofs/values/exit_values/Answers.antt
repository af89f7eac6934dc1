use Rattle.static_readings.specs.Offers.{IsExitValueRead}
use Rattle.static_readings.specs.Views.{exit_value_at}
use Rattle.static_readings.proofs.Together.{begun, next}
use Rattle.std.proofs.Common.{subst, sym, map, Some, []}
use Rattle.std.specs.Prelude.{option_map}
use Rattle.sort_overloads.specs.Judged.{Adds}
use Rattle.static_readings.specs.Offers.{AreExitValuesRead}
use Rattle.static_readings.proofs.values.exit_values.Goals as goal

pub loop-one-init : goal.loop-one-init
loop-one-init c = subst (λ xs. Adds (AreExitValuesRead c.args.site.now [] (Some (map exit_value_at xs))) c.args.refusals.now.items c.args.refusals.now.items) (sym c.new.ensures.items) (begun (IsExitValueRead c.args.site.now) c.args.refusals.now.items)

pub loop-one-preserved : goal.loop-one-preserved
loop-one-preserved c = next (IsExitValueRead c.args.site.now) exit_value_at c.args.from.now c.loop-one.one-index c.one-item.result (option_map (λ v. v.items) c.loop-one.all) (option_map (λ v. v.items) c.in_ok-all.all) c.in_ok-found.found c.args.refusals.now.items c.loop-one.refusals.items c.exit_value.new.refusals.items c.loop-one-test.true c.one-item.is c.loop-one.invariant c.in_ok-found.ensures c.in_ok-all.ensures
