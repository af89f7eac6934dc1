use Rattle.std.proofs.Common.{ap, ◌++◌, ◌∙◌}
use Rattle.board_tree.proofs.Changing.{adds_difference}
use Rattle.board_tree.proofs.change.put_difference.Goals as goal

pub returns : goal.returns
returns c =
    adds_difference _ _ c.in_ok-those.those.items _ _ c.in_ok-those.ensures.difference
    (c.in_ok-extend_from_slice.ensures.items ∙ ap (λ l. c.args.all.now.items ++ l) c.deref.ensures.value)
