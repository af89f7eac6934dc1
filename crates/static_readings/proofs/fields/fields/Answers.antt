use Rattle.std.proofs.Common.{◌∙◌, ◌+◌, ap, subst, sym, arith, length, map, Some, []}
use Rattle.std.specs.Prelude.{option_map}
use Rattle.sort_overloads.specs.Judged.{Adds}
use Rattle.static_readings.specs.Offers.{IsOfferRead}
use Rattle.static_readings.specs.ReadsAll.{ReadsAll}
use Rattle.static_readings.specs.Views.{fields_of}
use Rattle.static_readings.proofs.Offered.{number_next, fields_next, fields_all}
use Rattle.static_readings.proofs.Together.{begun}
use Rattle.static_readings.proofs.fields.fields.Goals as goal

pub loop-one-init : goal.loop-one-init
loop-one-init c = record {
  number = omega (arith, c.variables-number.ensures.count);
  read = subst (λ xs. Adds (ReadsAll (IsOfferRead c.args.site.now) [] (Some (map fields_of xs))) c.args.refusals.now.items c.args.refusals.now.items)
      (sym c.new.ensures.items) (begun (IsOfferRead c.args.site.now) c.args.refusals.now.items);
}

pub loop-one-preserved : goal.loop-one-preserved
loop-one-preserved c = record {
  number = number_next (length c.args.site.now.context.variables) c.loop-one.number c.in_ok-number.number c.args.from.now c.loop-one.one-index c.one-item.result
      c.loop-one-test.true c.one-item.is c.loop-one.invariant.number (c.in_ok-number.ensures ∙ ap (λ ts. c.loop-one.number + length ts) c.names_of.ensures);
  read = fields_next c.args.site.now fields_of c.args.from.now c.loop-one.one-index c.one-item.result c.loop-one.number (option_map (λ v. v.items) c.loop-one.all)
      (option_map (λ v. v.items) c.in_ok-all.all) c.in_ok-found.found c.args.refusals.now.items c.loop-one.refusals.items c.offer.new.refusals.items
      c.loop-one-test.true c.one-item.is c.loop-one.invariant.number c.loop-one.invariant.read c.in_ok-found.ensures c.in_ok-all.ensures;
}

pub returns : goal.returns
returns c = fields_all c.args.site.now c.args.from.now c.loop-one.one-index (option_map (map fields_of) (option_map (λ v. v.items) c.loop-one.all))
    c.args.refusals.now.items c.loop-one.refusals.items c.loop-one-test.false c.loop-one.invariant.read
