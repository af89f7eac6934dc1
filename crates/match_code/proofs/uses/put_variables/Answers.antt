use Rattle.std.proofs.Common.{◌∷◌, ◌+◌, ◌++◌, [], map, take, get_or, reverse, ap, sym, ◌∙◌, arith}
use Rattle.std.proofs.lemmas.List.{reverse-append, take_all}
use Rattle.std.proofs.lemmas.Result.{err_from_is_err_and}
use Rattle.spec_core.proofs.Lists.{each_get_or, own_default, map_next}
use Rattle.value_nodes.specs.Nodes.{all_costs, IsNode}
use Rattle.rewriter.specs.Steps.{bound_at}
use Rattle.match_code.proofs.Postfix.{costs_next, costs_taken}
use Rattle.match_code.proofs.uses.put_variables.Goals as goal

pub put-requires-clause-there : goal.put-requires-clause-there
put-requires-clause-there c =
    each_get_or (λ x. IsNode c.args.nodes.now (bound_at c.args.bound.now x)) c.args.first.now c.loop-x.x-index 0 c.loop-x-test.true
    c.requires.there

pub loop-x-preserved : goal.loop-x-preserved
loop-x-preserved c =
    let f = bound_at c.args.bound.now in
    let first = c.args.first.now in
    let i = c.loop-x.x-index in
    let x = get_or first i 0 in
    let at = own_default first i 0 c.loop-x-test.true in
    let made = c.in_ok-used.ensures in
    let before = c.args.values.now in
    let next = costs_next c.args.nodes.now f first i x c.loop-x-test.true at in
    record {
      put =
          made.pushed
          ∙ ap (λ vs. f x ∷ vs) c.loop-x.invariant.put
          ∙ sym (ap (λ us. reverse us ++ before) (map_next f first i x c.loop-x-test.true at)
          ∙ ap (λ us. us ++ before) (reverse-append (map f (take i first)) (f x ∷ [])));
      counted = omega (arith, made.counted, c.loop-x.invariant.counted, next);
      within = made.within;
    }

pub returns-in_err-used-clause-spent : goal.returns-in_err-used-clause-spent
returns-in_err-used-clause-spent c =
    let f = bound_at c.args.bound.now in
    let first = c.args.first.now in
    let i = c.loop-x.x-index in
    let x = get_or first i 0 in
    let at = own_default first i 0 c.loop-x-test.true in
    let next = costs_next c.args.nodes.now f first i x c.loop-x-test.true at in
    let all = costs_taken c.args.nodes.now f first (i + 1) in
    let p = err_from_is_err_and c.from_residual.result c.from_residual.ensures.1 in
    rw (p.1, p.2)
    (λ e. let over = c.in_err-used.ensures.spent e in omega (arith, over, c.loop-x.invariant.counted, next, all))

pub returns-clause-put : goal.returns-clause-put
returns-clause-put c =
    let all = take_all c.loop-x.x-index c.args.first.now c.loop-x-test.false in
    let f = bound_at c.args.bound.now in
    c.loop-x.invariant.put ∙ ap (λ xs. reverse (map f xs) ++ c.args.values.now) all

pub returns-clause-counted : goal.returns-clause-counted
returns-clause-counted c =
    let all = take_all c.loop-x.x-index c.args.first.now c.loop-x-test.false in
    let e = ap (λ xs. all_costs c.args.nodes.now (map (bound_at c.args.bound.now) xs)) all in
    omega (arith, c.loop-x.invariant.counted, e)
