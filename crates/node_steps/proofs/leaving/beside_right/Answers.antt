use Rattle.std.proofs.Common.{◌++◌, refl, ap, ◌∙◌}
use Rattle.spec_core.specs.Code.{program_of, synchronised_of}
use Rattle.node_trees.specs.Rests.{left_at, left_beside, remainder_of}
use Rattle.node_steps.specs.Knowing.{tell}
use Rattle.node_steps.proofs.Making.{right_leaves}
use Rattle.node_steps.proofs.leaving.beside_right.Goals as goal

pub returns : goal.returns
returns c =
    right_leaves (program_of c.args.checked.now) c.args.values.now (synchronised_of c.args.gates) c.args.right c.args.turn _ refl
    (c.in_ok-rest.ensures.made
    ∙ ap (λ z. left_beside (synchronised_of c.args.gates) (remainder_of c.args.turn.rest) z)
    (c.in_ok-other.ensures.stays ∙ ap (λ l. left_at c.args.right (tell c.args.values.now ++ l)) c.new.ensures.items))
