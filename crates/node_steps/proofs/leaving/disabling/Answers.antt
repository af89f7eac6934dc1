use Rattle.std.proofs.Common.{◌++◌, refl, ap, ◌∙◌}
use Rattle.spec_core.specs.Code.{program_of}
use Rattle.node_trees.specs.Rests.{left_at, left_disabling, remainder_of}
use Rattle.node_steps.specs.Knowing.{tell}
use Rattle.node_steps.proofs.Making.{disabling_leaves}
use Rattle.node_steps.proofs.leaving.disabling.Goals as goal

pub returns : goal.returns
returns c =
    disabling_leaves (program_of c.args.checked.now) c.args.values.now c.args.right c.args.turn _ refl
    (c.in_ok-rest.ensures.made
    ∙ ap (λ z. left_disabling (remainder_of c.args.turn.rest) z)
    (c.in_ok-other.ensures.stays ∙ ap (λ l. left_at c.args.right (tell c.args.values.now ++ l)) c.new.ensures.items))
