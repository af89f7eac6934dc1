use Rattle.std.proofs.Common.{[], ◌∷◌, ◌++◌, ap, ◌∙◌}
use Rattle.spec_core.proofs.Lists.{map_map_next}
use Rattle.type_contents.specs.Items.{is_same_item}
use Rattle.type_contents.specs.Numbering.{number_among}
use Rattle.type_contents.specs.Views.{item_of, described_of, items_at, renaming_view}
use Rattle.type_equation_copies.specs.Copies.{image_in}
use Rattle.type_equation_copies.specs.Indexes.{items_in}
use Rattle.type_equation_copies.proofs.Named.{position_through}
use Rattle.type_equation_copies.proofs.new_numbers.image_numbers.Goals as goal

pub loop-one-preserved : goal.loop-one-preserved
loop-one-preserved c = λ among h.
    let copy = image_in (items_at c.args.table.now c.args.replaced.now) (renaming_view c.args.renaming.now) in
    map_map_next (λ d. number_among among (copy d.item)) described_of c.loop-one.all.items c.push.new.self.items c.args.described.now c.loop-one.one-index c.one-item.result c.loop-one-test.true c.one-item.is (c.loop-one.invariant among h)
    (c.in_ok-push.ensures.items ∙ ap (λ n. c.loop-one.all.items ++ n ∷ []) (c.in_ok-image_number.ensures (items_in among) h ∙ position_through (λ d. d.item) (is_same_item (copy (item_of c.one-item.result.item))) among))
