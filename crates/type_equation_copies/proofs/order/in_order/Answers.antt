use Rattle.std.proofs.Common.{[], map, ap, ◌∙◌}
use Rattle.std.specs.List.{fold}
use Rattle.type_contents.proofs.Folds.{ranged_next}
use Rattle.type_images.specs.Same.{with_equation}
use Rattle.type_images.specs.Groups.{equations_of}
use Rattle.type_equation_copies.specs.Contents.{brought_by}
use Rattle.type_equation_copies.specs.Views.{made_at}
use Rattle.type_equation_copies.proofs.Lists.{brought_same}
use Rattle.type_equation_copies.proofs.order.in_order.Goals as goal

pub loop-number-preserved : goal.loop-number-preserved
loop-number-preserved c = record {
  equations = ranged_next with_equation (brought_by (map made_at c.args.found.now) c.args.among.now (equations_of c.in_ok-content.content)) [] (equations_of c.loop-number.set) (equations_of c.add_brought.new.set) c.loop-number.number
      c.loop-number.invariant.equations
      (c.in_ok-add_brought.ensures.equations
      ∙ ap (fold with_equation (equations_of c.loop-number.set)) (brought_same (map made_at c.args.found.now) c.args.among.now c.in_ok-chosen.chosen.keys (equations_of c.in_ok-content.content) c.loop-number.number (c.in_ok-chosen.ensures.among c.loop-number.number)));
  grouped = c.in_ok-add_brought.ensures.grouped;
}
