use Rattle.std.proofs.Common.{◌≡◌, ◌+◌, length, map, take}
use Rattle.std.specs.Prelude.{option_map}
use Rattle.sort_overloads.specs.Judged.{Adds}
use Rattle.static_readings.specs.Offers.{IsOfferRead, offered_names, numbered_offers}
use Rattle.static_readings.specs.ReadsAll.{ReadsAll}
use Rattle.static_readings.specs.Views.{fields_of}
use Rattle.static_readings.proofs.fields.fields.Given as goal

abbrev pub invariant-loop-one : goal.invariant-loop-one
invariant-loop-one l = record {
  number : l.number ≡ length l.site.context.variables + length (offered_names (take l.one-index l.from));
  read : Adds (ReadsAll (IsOfferRead l.site) (numbered_offers (length l.site.context.variables) (take l.one-index l.from))
      (option_map (map fields_of) (option_map (λ v. v.items) l.all))) l.initial.refusals.items l.refusals.items;
}
