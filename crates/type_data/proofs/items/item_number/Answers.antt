use Rattle.std.proofs.Common.{◌∙◌}
use Rattle.type_contents.specs.Items.{is_same_item}
use Rattle.type_contents.specs.Views.{item_of}
use Rattle.type_equation_copies.specs.Indexes.{items_in}
use Rattle.type_equation_copies.proofs.Named.{position_through}
use Rattle.type_data.proofs.items.item_number.Goals as goal

pub returns : goal.returns
returns c = λ among h. c.in_ok-number.ensures ∙ c.number.ensures (items_in among) h ∙ position_through (λ d. d.item) (is_same_item (item_of c.args.item.now)) among
