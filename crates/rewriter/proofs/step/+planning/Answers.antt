use Rattle.std.proofs.Common.{rules, suc, ◌≡◌, ◌∷◌, map, length, refl, sym, ap, subst, ◌∙◌, arith, inl, inr}
use Rattle.std.proofs.lemmas.Result.{on_ok_weaker}
use Rattle.spec_core.specs.declared.term.Term.TheFolds.{the_lemmas}
use Rattle.spec_core.specs.Lists.{Each}
use Rattle.spec_core.specs.Terms.{variable, apply, terms, term_of, width, Occurs, OccursInAny}
use Rattle.spec_core.proofs.Lists.{map_first}
use Rattle.rewriter.specs.Machine.{call, plan, plan_all}
use Rattle.rewriter.specs.Steps.{task_of, put_by, IsStep, IsWithinArity, AreWithinArity, AllWithinArity}
use Rattle.rewriter.proofs.Weights.{weight, weights}
use Rattle.rewriter.proofs.Outcomes.{width_terms}
use Rattle.rewriter.proofs.step.+planning.Goals as goal

pub push_instance-bounds-bound-x : goal.push_instance-bounds-bound-x
push_instance-bounds-bound-x t c =
    let k : term_of c.args.term.now ≡ variable c.in-Var.x = search (rules, the_lemmas) in
    c.requires.room c.in-Var.x (subst (Occurs c.in-Var.x) (sym k) refl)

pub push_instance-push_instances-requires : goal.push_instance-push_instances-requires
push_instance-push_instances-requires t c =
    let k : term_of c.args.term.now ≡ apply c.in-App.op.0 (terms (map term_of c.in-App.args.items)) = search (rules, the_lemmas) in
    let z : term_of c.args.term.now ≡ apply c.in-App.op.0 (terms (map term_of c.deref.result.now)) =
    k ∙ ap (λ ts. apply c.in-App.op.0 (terms (map term_of ts))) (sym c.deref.ensures.value) in
    let m : weight (term_of c.args.term.now) ≡ suc (weights (terms (map term_of c.deref.result.now))) = ap weight z in
    (omega (arith, c.decreases, m), λ x o. c.requires.room x (subst (Occurs x) (sym z) o))

pub push_instance-returns-in_ok-push-in-App-clause-planned : goal.push_instance-returns-in_ok-push-in-App-clause-planned
push_instance-returns-in_ok-push-in-App-clause-planned t c =
    let k : term_of c.args.term.now ≡ apply c.in-App.op.0 (terms (map term_of c.in-App.args.items)) = search (rules, the_lemmas) in
    let z : term_of c.args.term.now ≡ apply c.in-App.op.0 (terms (map term_of c.deref.result.now)) =
    k ∙ ap (λ ts. apply c.in-App.op.0 (terms (map term_of ts))) (sym c.deref.ensures.value) in
    let n : c.len.result ≡ width (terms (map term_of c.deref.result.now)) =
    cc (c.len.ensures, ap length c.deref.ensures.value, width_terms c.deref.result.now) in
    on_ok_weaker c.push_instances.result
    (λ h theory rows. h theory rows
    ∙ ap (plan_all (put_by rows c.args.bound.now) (terms (map term_of c.deref.result.now)))
    (ap (map (task_of theory rows)) c.in_ok-push-in-App.ensures.pushed ∙ ap
    (λ i. call c.in-App.op.0 i ∷ map (task_of theory rows) c.args.todo.now) n)
    ∙ ap (λ u. plan (put_by rows c.args.bound.now) u (map (task_of theory rows) c.args.todo.now)) (sym z))
    c.push_instances.ensures.planned

pub push_instance-returns-in_ok-push-in-App-clause-steps : goal.push_instance-returns-in_ok-push-in-App-clause-steps
push_instance-returns-in_ok-push-in-App-clause-steps t c =
    let k : term_of c.args.term.now ≡ apply c.in-App.op.0 (terms (map term_of c.in-App.args.items)) = search (rules, the_lemmas) in
    let z : term_of c.args.term.now ≡ apply c.in-App.op.0 (terms (map term_of c.deref.result.now)) =
    k ∙ ap (λ ts. apply c.in-App.op.0 (terms (map term_of ts))) (sym c.deref.ensures.value) in
    let n : c.len.result ≡ width (terms (map term_of c.deref.result.now)) =
    cc (c.len.ensures, ap length c.deref.ensures.value, width_terms c.deref.result.now) in
    on_ok_weaker c.push_instances.result
    (λ h theory rows arities there before.
    let all = subst (AreWithinArity theory) z arities in
    let own = subst (IsWithinArity theory c.in-App.op.0) (sym n) all.0 in
    h theory rows all.1 (λ x o. there x (subst (Occurs x) (sym z) o))
    (subst (Each (IsStep theory rows)) (sym c.in_ok-push-in-App.ensures.pushed) (own, before)))
    c.push_instances.ensures.steps

pub push_instances-push_instances-requires : goal.push_instances-push_instances-requires
push_instances-push_instances-requires t c =
    let z = ap terms (map_first term_of c.args.all.now c.term-item.result c.in-len1-up.len_at_least c.term-item.is) in
    let m = ap weights z in
    (omega (arith, c.decreases, m), λ x o. c.requires.room x (subst (OccursInAny x) z (inr o)))

pub push_instances-push_instance-requires : goal.push_instances-push_instance-requires
push_instances-push_instance-requires t c =
    let z = ap terms (map_first term_of c.args.all.now c.term-item.result c.in-len1-up.len_at_least c.term-item.is) in
    let m = ap weights z in
    (omega (arith, c.decreases, m), λ x o. c.requires.room x (subst (OccursInAny x) z (inl o)))

pub push_instances-returns-in_ok-push_instances-in-len1-up-clause-planned :
    goal.push_instances-returns-in_ok-push_instances-in-len1-up-clause-planned
push_instances-returns-in_ok-push_instances-in-len1-up-clause-planned t c =
    let z = ap terms (map_first term_of c.args.all.now c.term-item.result c.in-len1-up.len_at_least c.term-item.is) in
    on_ok_weaker c.push_instance.result
    (λ h theory rows. h theory rows
    ∙ ap (plan (put_by rows c.args.bound.now) (term_of c.term-item.result)) (c.in_ok-push_instances-in-len1-up.ensures.planned theory rows)
    ∙ ap (λ us. plan_all (put_by rows c.args.bound.now) us (map (task_of theory rows) c.args.todo.now)) z)
    c.push_instance.ensures.planned

pub push_instances-returns-in_ok-push_instances-in-len1-up-clause-steps :
    goal.push_instances-returns-in_ok-push_instances-in-len1-up-clause-steps
push_instances-returns-in_ok-push_instances-in-len1-up-clause-steps t c =
    let z = ap terms (map_first term_of c.args.all.now c.term-item.result c.in-len1-up.len_at_least c.term-item.is) in
    on_ok_weaker c.push_instance.result
    (λ h theory rows arities there before.
    let all = subst (AllWithinArity theory) (sym z) arities in
    h theory rows all.0 (λ x o. there x (subst (OccursInAny x) z (inl o)))
    (c.in_ok-push_instances-in-len1-up.ensures.steps theory rows all.1 (λ x o. there x (subst (OccursInAny x) z (inr o))) before))
    c.push_instance.ensures.steps
