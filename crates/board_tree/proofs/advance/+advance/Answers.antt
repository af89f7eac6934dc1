use Rattle.std.proofs.Common.{rules, ap, ◌∙◌}
use Rattle.board_tree.specs.Changes.{changed}
use Rattle.board_tree.proofs.Moving.{moves_taken, moves_alone, moves_both, moves_hiding, moves_enabling, moves_disabling}
use Rattle.board_tree.proofs.advance.+advance.Goals as goal

pub taken_over-returns : goal.taken_over-returns
taken_over-returns t c =
    moves_taken _ c.args.taking _ _ _ _ _ _ _ _ _ _ _ (search rules) c.requires.shape c.in_ok-one.ensures (search rules) (search rules)

pub one_side-returns : goal.one_side-returns
one_side-returns t c =
    moves_alone _ c.args.side _ _ _ _ _ _ _ _ _ _ c.requires.shape
    (ap (changed _) c.requires.shape ∙ c.in_ok-change.ensures.made _ _ _)
    c.in_ok-one.ensures

pub both_together-returns : goal.both_together-returns
both_together-returns t c =
    moves_both _ _ _ _ _ _ _ _ _ _ _ _ _ _ _ c.requires.shape
    (ap (changed _) c.requires.shape ∙ c.in_ok-change.ensures.made _ _ _)
    c.in_ok-one.ensures c.in_ok-two.ensures

pub hiding_step-returns : goal.hiding_step-returns
hiding_step-returns t c =
    moves_hiding _ c.args.hides _ _ _ _ _ _ _ _ _ _ (search rules) c.requires.shape
    (ap (changed _) c.requires.shape ∙ c.in_ok-change.ensures.made _ _)
    c.in_ok-one.ensures

pub enabling_step-returns : goal.enabling_step-returns
enabling_step-returns t c =
    moves_enabling _ _ _ _ _ _ _ _ _ _ _ _ c.requires.shape
    (ap (changed _) c.requires.shape ∙ c.in_ok-change.ensures.made _ _)
    c.in_ok-one.ensures

pub disabling_step-returns : goal.disabling_step-returns
disabling_step-returns t c =
    moves_disabling _ _ _ _ _ _ _ _ _ _ c.requires.shape
    (ap (changed _) c.requires.shape ∙ c.in_ok-change.ensures.made _ _ _)
    c.in_ok-one.ensures
