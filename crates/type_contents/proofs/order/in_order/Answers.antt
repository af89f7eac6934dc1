use Rattle.std.proofs.Common.{map, []}
use Rattle.type_contents.specs.Lists.{with_one}
use Rattle.type_contents.specs.Items.{is_same_described}
use Rattle.type_contents.specs.Numbering as numbering
use Rattle.type_contents.specs.Views.{described_of, items_at, brought_at}
use Rattle.std.proofs.Common.{ap, ◌∙◌}
use Rattle.std.specs.List.{fold}
use Rattle.type_contents.proofs.Folds.{ranged_next}
use Rattle.type_contents.proofs.Found.{brought_same}
use Rattle.type_contents.proofs.order.in_order.Goals as goal

pub loop-number-preserved : goal.loop-number-preserved
loop-number-preserved c = ranged_next (with_one is_same_described) (numbering.brought_by (map brought_at c.args.found.now) c.args.among.now (items_at c.args.table.now c.args.items.now)) [] (map described_of c.loop-number.all.items) (map described_of c.add_brought.new.all.items) c.loop-number.number c.loop-number.invariant
    (c.in_ok-add_brought.ensures
    ∙ ap (fold (with_one is_same_described) (map described_of c.loop-number.all.items)) (brought_same (map brought_at c.args.found.now) c.args.among.now c.in_ok-chosen.chosen.keys (items_at c.args.table.now c.args.items.now) c.loop-number.number (c.in_ok-chosen.ensures.among c.loop-number.number)))
