use Rattle.std.proofs.Common.{◌∙◌, map, sym, ap, subst}
use Rattle.std.specs.Prelude.{◌≡◌, IfOk}
use Rattle.spec_core.specs.Code.{program_of, relabelling_of}
use Rattle.rule_model.specs.Behaviours.{relabel}
use Rattle.rule_model.specs.Substitution.{tidied}
use Rattle.rule_origins.specs.Parts.{behaviour_at}
use Rattle.rule_origins.specs.Values.{assignment}
use Rattle.node_trees.specs.Origins.{scoped}
use Rattle.node_trees.specs.Shapes.{shape_of, stands_for}
use Rattle.node_trees.proofs.Tidying.{tidied_scoped, stays_scoped}
use Rattle.node_trees.proofs.renew.tidied_at.Goals as goal

pub returns-in-None-clause-stands : goal.returns-in-None-clause-stands
returns-in-None-clause-stands c =
    let p = program_of c.args.checked.now in
    let s = assignment p.theory c.args.values.now in
    let all = map relabelling_of c.in_ok-one.one.pairs.items in
    let b = behaviour_at p c.args.node in
    let d = behaviour_at p c.in_ok-one.one.node in
    subst (λ z. IfOk c.unfolded_under.result (λ f. stands_for p (shape_of f.branch.value) ≡ z)) (
    ap (λ l. relabel (map relabelling_of l) (scoped p c.in_ok-one.one.node c.args.values.now)) c.deref.ensures.value
    ∙ sym (stays_scoped s all d c.in_ok-one.ensures.alone c.in-None.ensures.none)
    ∙ sym (tidied_scoped s (map relabelling_of c.args.pairs.now) all b d c.in_ok-one.ensures.same)
    ) c.unfolded_under.ensures.stands

pub returns-clause-stands : goal.returns-clause-stands
returns-clause-stands c =
    let p = program_of c.args.checked.now in
    let s = assignment p.theory c.args.values.now in
    let all = map relabelling_of c.in_ok-one.one.pairs.items in
    subst (λ z. IfOk c.waiting_under.result (λ f. stands_for p (shape_of f.branch.value) ≡ z)) (
    ap (λ l. tidied (map relabelling_of l) (scoped p c.in_ok-one.one.node c.args.values.now)) c.deref-in-Some.ensures.value
    ∙ sym (tidied_scoped s (map relabelling_of c.args.pairs.now) all (behaviour_at p c.args.node) (behaviour_at p c.in_ok-one.one.node)
    c.in_ok-one.ensures.same)
    ) c.waiting_under.ensures.stands
