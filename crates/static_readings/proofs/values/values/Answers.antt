use Rattle.std.proofs.Common.{subst, sym, map, Some, None, [], get_or, arith, ◌∙◌}
use Rattle.std.specs.Prelude.{option_map}
use Rattle.std.specs.List.{zip}
use Rattle.std.proofs.lemmas.List.{get_or_default, length-map}
use Rattle.std.proofs.lemmas.Slice.Zip.{length-zip}
use Rattle.spec_core.specs.Terms.{term_of}
use Rattle.sort_overloads.specs.Judged.{Adds}
use Rattle.static_readings.specs.Calls.{IsArgumentRead, AreValuesRead}
use Rattle.static_readings.specs.Views.{sort_if_known}
use Rattle.static_readings.proofs.Together.{begun, next, ended, within_both, side_by_side}
use Rattle.static_readings.proofs.values.values.Goals as goal

pub loop-i-init : goal.loop-i-init
loop-i-init c = subst (λ xs. Adds (AreValuesRead c.args.site.now [] [] (Some (map term_of xs))) c.args.refusals.now.items c.args.refusals.now.items) (sym c.new.ensures.items) (begun (λ e. IsArgumentRead c.args.site.now e.0 e.1) c.args.refusals.now.items)

pub loop-i-preserved : goal.loop-i-preserved
loop-i-preserved c = next (λ e. IsArgumentRead c.args.site.now e.0 e.1) term_of (zip (map sort_if_known c.args.sorts.now) c.args.from.now) c.loop-i.i (sort_if_known (get_or c.args.sorts.now c.loop-i.i None), c.index-from-i.result) (option_map (λ v. v.items) c.loop-i.all) (option_map (λ v. v.items) c.in_ok-all.all) c.in_ok-found.found c.args.refusals.now.items c.loop-i.refusals.items c.argument.new.refusals.items
    (within_both (map sort_if_known c.args.sorts.now) c.args.from.now c.loop-i.i (length-map c.args.sorts.now sort_if_known ∙ c.requires) c.loop-i-test.true)
    (side_by_side sort_if_known c.args.sorts.now c.args.from.now c.loop-i.i (get_or c.args.sorts.now c.loop-i.i None) c.index-from-i.result c.requires c.loop-i-test.true (get_or_default c.args.sorts.now c.loop-i.i None (get_or c.args.sorts.now c.loop-i.i None) (omega (arith, c.requires, c.loop-i-test.true))) c.index-from-i.is)
    c.loop-i.invariant c.in_ok-found.ensures c.in_ok-all.ensures

pub returns : goal.returns
returns c = ended (λ e. IsArgumentRead c.args.site.now e.0 e.1) (zip (map sort_if_known c.args.sorts.now) c.args.from.now) c.loop-i.i (option_map (map term_of) (option_map (λ v. v.items) c.loop-i.all)) c.args.refusals.now.items c.loop-i.refusals.items
    (omega (arith, length-zip (map sort_if_known c.args.sorts.now) c.args.from.now, c.loop-i-test.false)) c.loop-i.invariant
