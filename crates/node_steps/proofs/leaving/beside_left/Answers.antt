use Rattle.std.proofs.Common.{◌++◌, refl, ap, ◌∙◌}
use Rattle.spec_core.specs.Code.{program_of, synchronised_of}
use Rattle.node_trees.specs.Rests.{left_at, left_beside, remainder_of}
use Rattle.node_steps.specs.Knowing.{tell}
use Rattle.node_steps.proofs.Making.{left_leaves}
use Rattle.node_steps.proofs.leaving.beside_left.Goals as goal

pub returns : goal.returns
returns c =
    left_leaves (program_of c.args.checked.now) c.args.values.now (synchronised_of c.args.gates) c.args.left c.args.turn _ refl
    (c.in_ok-rest.ensures.made
    ∙ ap (λ z. left_beside (synchronised_of c.args.gates) z (remainder_of c.args.turn.rest))
    (c.in_ok-other.ensures.stays ∙ ap (λ l. left_at c.args.left (tell c.args.values.now ++ l)) c.new.ensures.items))
