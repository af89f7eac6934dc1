use Rattle.std.proofs.Common.{length, map, ◌++◌}
use Rattle.std.proofs.Common.{ap, ◌∙◌}
use Rattle.type_contents.specs.Items as items
use Rattle.type_contents.specs.Views.{item_of}
use Rattle.type_contents.proofs.Tables.{grown_length, within_more, items_stay}
use Rattle.type_contents.proofs.Made.{made_before}
use Rattle.type_contents.proofs.parts.put_together.Goals as goal

pub returns-clause-items : goal.returns-clause-items
returns-clause-items c = made_before c.united.new.table c.united-2.new.table c.in_ok-items.items.items _ c.united-2.ensures.kept c.in_ok-items.ensures.within c.in_ok-items.ensures.items

pub returns-clause-formals : goal.returns-clause-formals
returns-clause-formals c =
    c.in_ok-formals.ensures.items
    ∙ ap (λ z. items.union (z ++ map item_of c.args.parts.more_formals.items)) (items_stay c.args.table.now c.united.new.table c.args.parts.formals.items c.united.ensures.kept c.requires.1)

pub returns-clause-within : goal.returns-clause-within
returns-clause-within c = (within_more (length c.united.new.table) (length c.united-2.new.table) c.in_ok-items.items.items (grown_length c.united.new.table c.united-2.new.table c.united-2.ensures.kept) c.in_ok-items.ensures.within, c.in_ok-formals.ensures.within)
