use Rattle.std.proofs.Common.{length, map}
use Rattle.std.proofs.Common.{sym, ap, subst, ◌∙◌}
use Rattle.std.proofs.lemmas.List.{append-nil}
use Rattle.type_contents.specs.Views.{item_of, items_at, AreWithin}
use Rattle.type_contents.proofs.Made.{all_items_numbered, all_formals_numbered, items_numbered, formals_numbered, all_items_within, all_formals_within, named_and_more, same_kept}
use Rattle.type_contents.proofs.parts.actualized_parts.Goals as goal

pub returns-clause-items : goal.returns-clause-items
returns-clause-items c =
    named_and_more c.args.table.now c.in_ok-items_of_all.field-0.items _ _ _ (ap (items_at c.args.table.now) c.in_ok-items_of_all.ensures ∙ all_items_numbered c.args.table.now c.args.made.now c.args.actuals.now)
    (c.in_ok-kept.ensures ∙ same_kept _ _ _ _ _ _
    (ap (items_at c.args.table.now) c.made_formals-open.ensures ∙ formals_numbered c.args.table.now c.args.made.now c.args.source) c.in_ok-renaming.ensures
    (ap (items_at c.args.table.now) c.made_items-copied.ensures ∙ items_numbered c.args.table.now c.args.made.now c.args.source))

pub returns-clause-formals : goal.returns-clause-formals
returns-clause-formals c =
    named_and_more c.args.table.now c.in_ok-formals_of_all.field-0.items _ _ _ (ap (items_at c.args.table.now) c.in_ok-formals_of_all.ensures ∙ all_formals_numbered c.args.table.now c.args.made.now c.args.actuals.now)
    (ap (map item_of) c.new.ensures.items)
    ∙ append-nil _

pub returns-clause-within : goal.returns-clause-within
returns-clause-within c = (
  subst (AreWithin (length c.args.table.now)) (sym c.in_ok-items_of_all.ensures) (all_items_within (length c.args.table.now) c.args.made.now c.args.actuals.now c.requires),
  subst (AreWithin (length c.args.table.now)) (sym c.in_ok-formals_of_all.ensures) (all_formals_within (length c.args.table.now) c.args.made.now c.args.actuals.now c.requires),
)
