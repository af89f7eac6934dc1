use Rattle.std.proofs.Common.{length, map, ◌++◌}
use Rattle.std.proofs.Common.{sym, ap, subst, ◌∙◌}
use Rattle.type_contents.specs.Items as items
use Rattle.type_contents.specs.Views.{item_of, items_at, AreWithin}
use Rattle.type_contents.proofs.Made.{joined_stay, within_both}
use Rattle.type_contents.proofs.parts.united.Goals as goal

pub union-requires : goal.union-requires
union-requires c =
    subst (AreWithin (length c.numbers.new.self)) (sym (c.deref-2.ensures.value ∙ c.in_ok-extend_from_slice.ensures.items ∙ ap (λ z. c.args.numbers.items ++ z) c.deref.ensures.value))
    (within_both c.args.table.now c.numbers.new.self c.args.numbers.items c.in_ok-further.further.items c.numbers.ensures.kept c.requires c.in_ok-further.ensures.within)

pub returns-clause-items : goal.returns-clause-items
returns-clause-items c =
    c.in_ok-united.ensures.items
    ∙ ap (λ ns. items.union (items_at c.numbers.new.self ns)) (c.deref-2.ensures.value ∙ c.in_ok-extend_from_slice.ensures.items ∙ ap (λ z. c.args.numbers.items ++ z) c.deref.ensures.value)
    ∙ ap items.union (joined_stay c.args.table.now c.numbers.new.self c.args.numbers.items c.in_ok-further.further.items (map item_of c.args.more.items) c.numbers.ensures.kept c.requires c.in_ok-further.ensures.items)
