use Rattle.std.proofs.Common.{refl, ◌≡◌, ◌≤◌, ◌∷◌, length, arith, map, sym, ap, subst, ◌∙◌}
use Rattle.std.proofs.lemmas.Result.{err_from_is_err_and}
use Rattle.spec_core.specs.Lists.{Each}
use Rattle.spec_core.specs.Terms.{apply, terms}
use Rattle.spec_core.specs.Theories.{theory_of}
use Rattle.value_nodes.specs.Own.{StaysOver}
use Rattle.value_nodes.specs.Nodes.{tree_at, IsNode}
use Rattle.value_nodes.specs.Sizes.{IsTooLarge}
use Rattle.rewriter.specs.Calls.{arguments_of}
use Rattle.value_nodes.proofs.Nodes.{same_trees, still_nodes}
use Rattle.rewriter.proofs.Causes.{large_cause}
use Rattle.rewriter.proofs.Tops.{top_terms, few_top, each_under, drop_map}
use Rattle.rewriter.proofs.call.build.Goals as goal

pub returns-in_err-node-clause-large : goal.returns-in_err-node-clause-large
returns-in_err-node-clause-large c =
    let a : arguments_of c.args.nodes.now c.args.count c.args.values.now ≡ terms (map (tree_at c.args.nodes.now) c.top.result.now) =
    top_terms (tree_at c.args.nodes.now) c.args.count c.args.values.now ∙ ap (λ us. terms (map (tree_at c.args.nodes.now) us))
    (sym c.top.ensures.seen) in
    let p = err_from_is_err_and c.from_residual.result c.from_residual.ensures.1 in
    rw (p.1, p.2)
    (λ e. subst (λ us. IsTooLarge (apply c.args.op.0 us)) (sym a) (c.in_err-node.ensures.large (large_cause _ _ refl e)))

pub returns-clause-values : goal.returns-clause-values
returns-clause-values c =
    let d = each_under (IsNode c.args.nodes.now) c.args.count c.args.values.now c.requires.values in
    let n = subst (Each (IsNode c.args.nodes.now)) (sym c.forget.ensures.dropped) d in
    subst (Each (IsNode c.make.new.self)) (sym c.in_ok-push.ensures.pushed)
    (c.in_ok-node.ensures.there, still_nodes c.args.nodes.now c.make.new.self c.in_ok-node.ensures.longer c.forget.new.self n)

pub returns-clause-built : goal.returns-clause-built
returns-clause-built c =
    let a : arguments_of c.args.nodes.now c.args.count c.args.values.now ≡ terms (map (tree_at c.args.nodes.now) c.top.result.now) =
    top_terms (tree_at c.args.nodes.now) c.args.count c.args.values.now ∙ ap (λ us. terms (map (tree_at c.args.nodes.now) us))
    (sym c.top.ensures.seen) in
    let d = each_under (IsNode c.args.nodes.now) c.args.count c.args.values.now c.requires.values in
    let n = subst (Each (IsNode c.args.nodes.now)) (sym c.forget.ensures.dropped) d in
    let s = same_trees c.args.nodes.now c.make.new.self c.in_ok-node.ensures.longer c.forget.new.self n in
    ap (map (tree_at c.make.new.self)) c.in_ok-push.ensures.pushed
    ∙ ap (λ v. v ∷ map (tree_at c.make.new.self) c.forget.new.self) (c.in_ok-node.ensures.tree ∙ ap (λ us. apply c.args.op.0 us) (sym a))
    ∙ ap (λ vs. apply c.args.op.0 (arguments_of c.args.nodes.now c.args.count c.args.values.now) ∷ vs)
    (s ∙ ap (map (tree_at c.args.nodes.now)) c.forget.ensures.dropped ∙ drop_map
    (tree_at c.args.nodes.now) c.args.count c.args.values.now)

pub returns-clause-small : goal.returns-clause-small
returns-clause-small c =
    let a : arguments_of c.args.nodes.now c.args.count c.args.values.now ≡ terms (map (tree_at c.args.nodes.now) c.top.result.now) =
    top_terms (tree_at c.args.nodes.now) c.args.count c.args.values.now ∙ ap (λ us. terms (map (tree_at c.args.nodes.now) us))
    (sym c.top.ensures.seen) in
    λ big. c.in_ok-node.ensures.small c.in_ok-node.node c.in_ok-node.ensures.there
    (subst IsTooLarge (ap (λ us. apply c.args.op.0 us) a ∙ sym c.in_ok-node.ensures.tree) big)

pub returns-clause-own : goal.returns-clause-own
returns-clause-own c =
    let t = theory_of c.args.algebra.now in
    let a : arguments_of c.args.nodes.now c.args.count c.args.values.now ≡ terms (map (tree_at c.args.nodes.now) c.top.result.now) =
    top_terms (tree_at c.args.nodes.now) c.args.count c.args.values.now ∙ ap (λ us. terms (map (tree_at c.args.nodes.now) us))
    (sym c.top.ensures.seen) in
    let few : length c.top.result.now ≤ c.args.count =
    subst (λ us. length us ≤ c.args.count) (sym c.top.ensures.seen) (few_top c.args.count c.args.values.now) in
    c.in_ok-node.ensures.own t c.requires.executable.orthogonal.closed
    (subst (λ us. StaysOver t c.args.op.0 us c.args.own) a c.requires.stays)
    (λ vs l. c.requires.short vs (omega (arith, l, few))) c.requires.own
