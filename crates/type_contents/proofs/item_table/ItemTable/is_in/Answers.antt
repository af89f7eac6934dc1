use Rattle.std.proofs.Common.{subst, ◌∙◌}
use Rattle.std.specs.List.{IsDistinct}
use Rattle.type_contents.specs.Items.{is_same_item}
use Rattle.type_contents.proofs.Unions.{among}
use Rattle.type_contents.proofs.item_table.ItemTable.is_in.Goals as goal

pub returns : goal.returns
returns c = c.is_among.ensures ∙ among c.args.self.now c.args.number c.args.numbers.now (subst (IsDistinct is_same_item) c.self.view_is c.self.invariant) c.requires.number c.requires.within
