use Rattle.std.proofs.Common.{◌++◌, map, refl, ap, ◌∙◌}
use Rattle.spec_core.specs.Code.{program_of, variable_of}
use Rattle.node_trees.specs.Rests.{left_enabling, remainder_of}
use Rattle.node_steps.specs.Knowing.{tell}
use Rattle.node_steps.proofs.Making.{enabling_leaves}
use Rattle.node_steps.proofs.leaving.enabling.Goals as goal

pub returns : goal.returns
returns c =
    enabling_leaves (program_of c.args.checked.now) c.args.values.now (map variable_of c.args.vars.items) c.args.right c.args.turn _ refl
    (c.in_ok-rest.ensures.made
    ∙ ap (λ z. left_enabling (remainder_of c.args.turn.rest) (map variable_of c.args.vars.items) c.args.right z)
    (c.in_ok-later.ensures.told ∙ ap (λ l. tell c.args.values.now ++ l) c.new.ensures.items))
