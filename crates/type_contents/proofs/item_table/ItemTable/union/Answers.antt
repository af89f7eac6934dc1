use Rattle.std.proofs.Common.{length}
use Rattle.std.proofs.Common.{sym, ap, subst, ◌∙◌}
use Rattle.std.specs.List.{IsDistinct}
use Rattle.type_contents.specs.Items.{is_same_item}
use Rattle.type_contents.specs.Views.{items_at, AreWithin}
use Rattle.type_contents.proofs.Unions.{union_by_numbers, within_union}
use Rattle.type_contents.proofs.item_table.ItemTable.union.Goals as goal

pub returns-clause-items : goal.returns-clause-items
returns-clause-items c = ap (items_at c.args.self.now) c.in_ok-all.ensures ∙ union_by_numbers c.args.self.now c.args.numbers.now (subst (IsDistinct is_same_item) c.self.view_is c.self.invariant) c.requires

pub returns-clause-within : goal.returns-clause-within
returns-clause-within c = subst (AreWithin (length c.args.self.now)) (sym c.in_ok-all.ensures) (within_union (length c.args.self.now) c.args.numbers.now c.requires)
