use Rattle.std.proofs.Common.{length, map}
use Rattle.std.proofs.Common.{sym, ap, subst, ◌∙◌}
use Rattle.type_contents.specs.Items as items
use Rattle.type_contents.specs.Views.{items_at, AreWithin}
use Rattle.type_contents.proofs.Made.{all_items_numbered, all_formals_numbered, all_items_within, all_formals_within, named_and_more}
use Rattle.type_contents.proofs.parts.declared_parts.Goals as goal

pub returns-clause-items : goal.returns-clause-items
returns-clause-items c =
    named_and_more c.args.table.now c.in_ok-items_of_all.field-0.items _ _ _ (ap (items_at c.args.table.now) c.in_ok-items_of_all.ensures ∙ all_items_numbered c.args.table.now c.args.made.now c.args.linked.now)
    (c.in_ok-items_declared.ensures ∙ ap (map items.item_of) c.in_ok-own_items.ensures)

pub returns-clause-formals : goal.returns-clause-formals
returns-clause-formals c =
    named_and_more c.args.table.now c.in_ok-formals_of_all.field-0.items _ _ _ (ap (items_at c.args.table.now) c.in_ok-formals_of_all.ensures ∙ all_formals_numbered c.args.table.now c.args.made.now c.args.linked.now)
    (c.in_ok-items_declared-2.ensures ∙ ap (map items.item_of) c.in_ok-own_formals.ensures)

pub returns-clause-within : goal.returns-clause-within
returns-clause-within c = (
  subst (AreWithin (length c.args.table.now)) (sym c.in_ok-items_of_all.ensures) (all_items_within (length c.args.table.now) c.args.made.now c.args.linked.now c.requires),
  subst (AreWithin (length c.args.table.now)) (sym c.in_ok-formals_of_all.ensures) (all_formals_within (length c.args.table.now) c.args.made.now c.args.linked.now c.requires),
)
