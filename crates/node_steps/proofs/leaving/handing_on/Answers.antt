use Rattle.std.proofs.Common.{rules, ◌≡◌, ◌++◌, map, refl, ap, ◌∙◌}
use Rattle.spec_core.specs.Code.{program_of, variable_of}
use Rattle.node_trees.specs.Rests.{does_of, left_at}
use Rattle.node_steps.specs.Knowing.{tell, known_for}
use Rattle.node_steps.proofs.Making.{handing_leaves}
use Rattle.node_steps.proofs.leaving.handing_on.Goals as goal

pub returns-in-Exit : goal.returns-in-Exit
returns-in-Exit c =
    let vars : c.deref.result.now ≡ c.args.vars.items = search rules in
    let known : c.deref-in-Exit.result.now ≡ c.in-Exit.known.items = search rules in
    handing_leaves (program_of c.args.checked.now) c.args.values.now (map variable_of c.args.vars.items) c.in-Exit.known.items c.args.right
    c.args.turn _ (ap does_of c.in-Exit.is) refl
    (c.in_ok-rest-in-Exit.ensures.stays
    ∙ ap (λ l. left_at c.args.right (tell c.args.values.now ++ l))
    (c.in_ok-binders-in-Exit.ensures
    ∙ ap (λ l. known_for (map variable_of l) c.deref-in-Exit.result.now) vars
    ∙ ap (λ l. known_for (map variable_of c.args.vars.items) l) known))
