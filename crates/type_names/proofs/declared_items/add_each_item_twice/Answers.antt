use Rattle.std.proofs.Common.{◌∷◌, [], map, refl, sym, subst}
use Rattle.std.proofs.lemmas.List.{map-append}
use Rattle.type_contents.specs.Views.{described_of}
use Rattle.type_names.specs.DuplicateNames.{item_twice}
use Rattle.type_names.specs.NameSets.{IsItemSetOf}
use Rattle.type_names.proofs.Gathered.{each_after_last}
use Rattle.type_names.proofs.declared_items.add_each_item_twice.Goals as goal

pub loop-declared-preserved : goal.loop-declared-preserved
loop-declared-preserved c =
    let ds = map described_of c.loop-declared.yielded in
    let d = described_of c.in-Some.declared in
    record {
      refusals = each_after_last item_twice described_of _ _ _ c.loop-declared.yielded c.in-Some.declared c.loop-declared.invariant.refusals
          (c.in_ok-add_item_twice.ensures.refusals ds d c.loop-declared.invariant.before refl refl);
      before = subst (λ es. IsItemSetOf c.add_item_twice.new.before es) (sym (map-append described_of c.loop-declared.yielded (c.in-Some.declared ∷ [])))
          (c.in_ok-add_item_twice.ensures.before ds d c.loop-declared.invariant.before refl);
    }
