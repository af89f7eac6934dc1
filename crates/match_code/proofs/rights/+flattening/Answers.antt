use Rattle.std.proofs.Common.{rules, suc, ◌≡◌, ◌∷◌, map, sym, ap, subst, ◌∙◌, arith, inl, inr}
use Rattle.std.proofs.lemmas.Result.{on_ok_weaker}
use Rattle.spec_core.specs.declared.term.Term.TheFolds.{the_lemmas}
use Rattle.spec_core.specs.Lists.{Each}
use Rattle.spec_core.specs.Terms.{apply, terms, term_of, width, Occurs, OccursInAny}
use Rattle.spec_core.proofs.Lists.{map_first}
use Rattle.rewriter.specs.Machine.{call, plan, plan_all}
use Rattle.rewriter.specs.Steps.{IsWithinArity, AreWithinArity, AllWithinArity}
use Rattle.rewriter.proofs.Weights.{weight, weights}
use Rattle.rewriter.proofs.Outcomes.{width_terms}
use Rattle.match_code.specs.Rights.{task_by, OnVariable, OnOperation}
use Rattle.match_code.proofs.rights.+flattening.Goals as goal

pub flatten-flatten_all-requires : goal.flatten-flatten_all-requires
flatten-flatten_all-requires t c =
    let k : term_of c.args.term.now ≡ apply c.in-App.op.0 (terms (map term_of c.in-App.args.items)) = search (rules, the_lemmas) in
    let z : term_of c.args.term.now ≡ apply c.in-App.op.0 (terms (map term_of c.deref.result.now)) =
    k ∙ ap (λ ts. apply c.in-App.op.0 (terms (map term_of ts))) (sym c.deref.ensures.value) in
    let m : weight (term_of c.args.term.now) ≡ suc (weights (terms (map term_of c.deref.result.now))) = ap weight z in
    omega (arith, c.decreases, m)

pub flatten-returns-in_ok-push-in-App-clause-planned : goal.flatten-returns-in_ok-push-in-App-clause-planned
flatten-returns-in_ok-push-in-App-clause-planned t c =
    let k : term_of c.args.term.now ≡ apply c.in-App.op.0 (terms (map term_of c.in-App.args.items)) = search (rules, the_lemmas) in
    let z : term_of c.args.term.now ≡ apply c.in-App.op.0 (terms (map term_of c.deref.result.now)) =
    k ∙ ap (λ ts. apply c.in-App.op.0 (terms (map term_of ts))) (sym c.deref.ensures.value) in
    let n : c.len.result ≡ width (terms (map term_of c.deref.result.now)) =
    cc (c.len.ensures, width_terms c.deref.result.now) in
    on_ok_weaker c.flatten_all.result
    (λ h s. h s
    ∙ ap (plan_all s (terms (map term_of c.deref.result.now)))
    (ap (map (task_by s)) c.in_ok-push-in-App.ensures.pushed ∙ ap
    (λ i. call c.in-App.op.0 i ∷ map (task_by s) c.args.symbols.now) n)
    ∙ ap (λ u. plan s u (map (task_by s) c.args.symbols.now)) (sym z))
    c.flatten_all.ensures.planned

pub flatten-returns-in_ok-push-in-App-clause-there : goal.flatten-returns-in_ok-push-in-App-clause-there
flatten-returns-in_ok-push-in-App-clause-there t c =
    let k : term_of c.args.term.now ≡ apply c.in-App.op.0 (terms (map term_of c.in-App.args.items)) = search (rules, the_lemmas) in
    let z : term_of c.args.term.now ≡ apply c.in-App.op.0 (terms (map term_of c.deref.result.now)) =
    k ∙ ap (λ ts. apply c.in-App.op.0 (terms (map term_of ts))) (sym c.deref.ensures.value) in
    on_ok_weaker c.flatten_all.result
    (λ h u there before. h u (λ x o. there x (subst (Occurs x) (sym z) o))
    (subst (Each (OnVariable (λ x. Occurs x u))) (sym c.in_ok-push-in-App.ensures.pushed) (tt, before)))
    c.flatten_all.ensures.there

pub flatten-returns-in_ok-push-in-App-clause-arities : goal.flatten-returns-in_ok-push-in-App-clause-arities
flatten-returns-in_ok-push-in-App-clause-arities t c =
    let k : term_of c.args.term.now ≡ apply c.in-App.op.0 (terms (map term_of c.in-App.args.items)) = search (rules, the_lemmas) in
    let z : term_of c.args.term.now ≡ apply c.in-App.op.0 (terms (map term_of c.deref.result.now)) =
    k ∙ ap (λ ts. apply c.in-App.op.0 (terms (map term_of ts))) (sym c.deref.ensures.value) in
    let n : c.len.result ≡ width (terms (map term_of c.deref.result.now)) =
    cc (c.len.ensures, width_terms c.deref.result.now) in
    on_ok_weaker c.flatten_all.result
    (λ h theory all before.
    let own = subst (AreWithinArity theory) z all in
    h theory own.1
    (subst (Each (OnOperation (IsWithinArity theory))) (sym c.in_ok-push-in-App.ensures.pushed)
    (subst (IsWithinArity theory c.in-App.op.0) (sym n) own.0, before)))
    c.flatten_all.ensures.arities

pub flatten_all-flatten_all-requires : goal.flatten_all-flatten_all-requires
flatten_all-flatten_all-requires t c =
    let z = ap terms (map_first term_of c.args.all.now c.term-item.result c.in-len1-up.len_at_least c.term-item.is) in
    let m = ap weights z in
    omega (arith, c.decreases, m)

pub flatten_all-flatten-requires : goal.flatten_all-flatten-requires
flatten_all-flatten-requires t c =
    let z = ap terms (map_first term_of c.args.all.now c.term-item.result c.in-len1-up.len_at_least c.term-item.is) in
    let m = ap weights z in
    omega (arith, c.decreases, m)

pub flatten_all-returns-in_ok-flatten_all-in-len1-up-clause-planned :
    goal.flatten_all-returns-in_ok-flatten_all-in-len1-up-clause-planned
flatten_all-returns-in_ok-flatten_all-in-len1-up-clause-planned t c =
    let z = ap terms (map_first term_of c.args.all.now c.term-item.result c.in-len1-up.len_at_least c.term-item.is) in
    on_ok_weaker c.flatten.result
    (λ h s. h s
    ∙ ap (plan s (term_of c.term-item.result)) (c.in_ok-flatten_all-in-len1-up.ensures.planned s)
    ∙ ap (λ us. plan_all s us (map (task_by s) c.args.symbols.now)) z)
    c.flatten.ensures.planned

pub flatten_all-returns-in_ok-flatten_all-in-len1-up-clause-there :
    goal.flatten_all-returns-in_ok-flatten_all-in-len1-up-clause-there
flatten_all-returns-in_ok-flatten_all-in-len1-up-clause-there t c =
    let z = ap terms (map_first term_of c.args.all.now c.term-item.result c.in-len1-up.len_at_least c.term-item.is) in
    on_ok_weaker c.flatten.result
    (λ h u there before. h u (λ x o. there x (subst (OccursInAny x) z (inl o)))
    (c.in_ok-flatten_all-in-len1-up.ensures.there u (λ x o. there x (subst (OccursInAny x) z (inr o))) before))
    c.flatten.ensures.there

pub flatten_all-returns-in_ok-flatten_all-in-len1-up-clause-arities :
    goal.flatten_all-returns-in_ok-flatten_all-in-len1-up-clause-arities
flatten_all-returns-in_ok-flatten_all-in-len1-up-clause-arities t c =
    let z = ap terms (map_first term_of c.args.all.now c.term-item.result c.in-len1-up.len_at_least c.term-item.is) in
    on_ok_weaker c.flatten.result
    (λ h theory all before.
    let both = subst (AllWithinArity theory) (sym z) all in
    h theory both.0 (c.in_ok-flatten_all-in-len1-up.ensures.arities theory both.1 before))
    c.flatten.ensures.arities
