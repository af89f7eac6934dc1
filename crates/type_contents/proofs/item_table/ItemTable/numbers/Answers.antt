use Rattle.std.proofs.Common.{length, ◌++◌, ◌∷◌, []}
use Rattle.std.proofs.Common.{sym, ap, subst, ◌∙◌}
use Rattle.std.proofs.lemmas.List.{map-append}
use Rattle.type_contents.specs.Views.{item_of, items_at, AreWithin}
use Rattle.type_contents.proofs.Tables.{grown_more, items_next, within_next}
use Rattle.type_contents.proofs.item_table.ItemTable.numbers.Goals as goal

pub loop-item-preserved : goal.loop-item-preserved
loop-item-preserved c = record {
  kept = grown_more c.args.self.now c.loop-item.self c.number.new.self c.loop-item.invariant.kept c.number.ensures.kept;
  items = ap (items_at c.number.new.self) c.in_ok-push.ensures.items
      ∙ items_next c.loop-item.self c.number.new.self c.loop-item.all.items c.in_ok-number.field-0 (item_of c.in-Some.item) c.number.ensures.kept c.loop-item.invariant.within c.in_ok-number.ensures.item
      ∙ ap (λ l. l ++ item_of c.in-Some.item ∷ []) c.loop-item.invariant.items ∙ sym (map-append item_of c.loop-item.yielded (c.in-Some.item ∷ []));
  within = subst (AreWithin (length c.number.new.self)) (sym c.in_ok-push.ensures.items)
      (within_next c.loop-item.self c.number.new.self c.loop-item.all.items c.in_ok-number.field-0 (item_of c.in-Some.item) c.number.ensures.kept c.loop-item.invariant.within c.in_ok-number.ensures.item);
}
