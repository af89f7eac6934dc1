use Rattle.std.proofs.Common.{nat_lt, ap, ◌∙◌}
use Rattle.std.specs.List.{position_or_len}
use Rattle.type_contents.specs.Items.{is_same_item}
use Rattle.type_contents.specs.Views.{item_of}
use Rattle.type_equation_copies.proofs.Named.{any_position}
use Rattle.type_equation_copies.proofs.item_index.ItemIndex.has.Goals as goal

pub returns : goal.returns
returns c = λ all h.
    let same = is_same_item (item_of c.args.item.now) in
    ap (λ k. nat_lt k c.args.self.now.count) (c.number.ensures all h) ∙ ap (nat_lt (position_or_len same all)) h.count ∙ any_position same all
