use Rattle.std.proofs.Common.{◌∙◌}
use Rattle.type_equation_copies.proofs.item_index.ItemIndex.number.Goals as goal

pub returns : goal.returns
returns c = λ all h. c.number_at.ensures ∙ h.numbers c.args.item.now
