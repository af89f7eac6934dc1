use Rattle.std.proofs.Common.{[], ◌∷◌, ◌++◌, ap, ◌∙◌}
use Rattle.spec_core.proofs.Lists.{map_map_next}
use Rattle.type_contents.specs.Numbering.{number_among}
use Rattle.type_contents.specs.Views.{described_of}
use Rattle.type_data.proofs.items.item_numbers.Goals as goal

pub loop-one-preserved : goal.loop-one-preserved
loop-one-preserved c = λ among h.
    map_map_next (λ d. number_among among d.item) described_of c.loop-one.all.items c.push.new.self.items c.args.described.now c.loop-one.one-index c.one-item.result c.loop-one-test.true c.one-item.is (c.loop-one.invariant among h)
    (c.in_ok-push.ensures.items ∙ ap (λ n. c.loop-one.all.items ++ n ∷ []) (c.in_ok-item_number.ensures among h))
