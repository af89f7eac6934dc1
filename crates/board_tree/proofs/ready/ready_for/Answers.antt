use Rattle.std.proofs.Common.{subst}
use Rattle.node_trees.specs.Shapes.{shape_of}
use Rattle.board_tree.specs.Changes.{Adds, BeginsIn, EndsIn}
use Rattle.board_tree.proofs.Changing.{ends_difference, begins_difference}
use Rattle.board_tree.proofs.ready.ready_for.Goals as goal

pub returns-clause-gone : goal.returns-clause-gone
returns-clause-gone c sound =
    let a = c.in_ok-action.field-0 in
    let t = shape_of c.args.branch.now in
    ends_difference _ _ _ a.change t sound (c.in_ok-action.ensures.goes.advances sound) c.put_differences.new.gone.items
    (subst (λ l. Adds (EndsIn a.change t) l c.put_differences.new.gone.items) c.new-gone.ensures.items
    c.in_ok-put_differences.ensures.gone)

pub returns-clause-came : goal.returns-clause-came
returns-clause-came c sound =
    let a = c.in_ok-action.field-0 in
    let t = shape_of c.args.branch.now in
    begins_difference _ _ _ a.change t sound (c.in_ok-action.ensures.goes.advances sound) c.put_differences.new.came.items
    (subst (λ l. Adds (BeginsIn a.change t) l c.put_differences.new.came.items) c.new-came.ensures.items
    c.in_ok-put_differences.ensures.came)
