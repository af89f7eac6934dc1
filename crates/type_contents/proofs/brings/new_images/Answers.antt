use Rattle.std.proofs.Common.{map, ◌++◌}
use Rattle.type_contents.specs.Images as images
use Rattle.type_contents.specs.Numbering as numbering
use Rattle.type_contents.specs.Views.{described_of, renaming_view, renaming_by}
use Rattle.std.proofs.Common.{ap, ◌∙◌}
use Rattle.type_contents.proofs.Lists.{gathered_next}
use Rattle.type_contents.proofs.brings.new_images.Goals as goal

pub loop-one-preserved : goal.loop-one-preserved
loop-one-preserved c = gathered_next (numbering.new_image (images.described_image (renaming_view c.args.renaming.now))) described_of (map described_of c.loop-one.all.items) (map described_of c.add_new_image.new.all.items) c.args.entries.now c.loop-one.one-index c.one-item.result c.loop-one-test.true c.one-item.is c.loop-one.invariant
    (c.in_ok-add_new_image.ensures
    ∙ ap (λ z. map described_of c.loop-one.all.items ++ numbering.new_image (images.described_image (renaming_by z c.deref-in-loop-one.result.now)) (described_of c.one-item.result)) c.deref.ensures.value
    ∙ ap (λ z. map described_of c.loop-one.all.items ++ numbering.new_image (images.described_image (renaming_by c.args.renaming.now.sorts.items z)) (described_of c.one-item.result)) c.deref-in-loop-one.ensures.value)
