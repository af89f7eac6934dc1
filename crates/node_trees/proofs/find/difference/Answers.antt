use Rattle.std.proofs.Common.{◌∙◌, ap, ◌++◌}
use Rattle.node_trees.specs.Differences.{missing}
use Rattle.node_trees.specs.Shapes.{shape_of}
use Rattle.node_trees.proofs.Differing.{difference_of}
use Rattle.node_trees.proofs.find.difference.Goals as goal

pub returns : goal.returns
returns c =
    let old = shape_of c.args.old.now in
    let new = shape_of c.args.new.now in
    record {
      difference = difference_of _ old new
          (c.in_ok-put_missing.ensures.missing new c.in_ok-others.ensures.generations ∙ ap (λ l. l ++ missing old new) c.new-all.ensures.items);
    }
