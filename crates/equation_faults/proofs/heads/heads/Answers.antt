use Rattle.std.proofs.Common.{◌≡◌, ◌+◌, map, rules, sym, subst, ap, ◌∙◌, take}
use Rattle.std.proofs.lemmas.List.{take_all}
use Rattle.spec_core.specs.declared.term.Term.TheFolds.{the_lemmas}
use Rattle.spec_core.specs.Terms.{apply, variable, terms, term_of}
use Rattle.spec_core.specs.Theories.{theory_of, equation_of}
use Rattle.equation_faults.proofs.Walks.{Listed, heads_more, heads_same, exact_heads}
use Rattle.equation_faults.proofs.heads.heads.Goals as goal
use Rattle.equation_faults.proofs.heads.heads.Goals.{in-App+in_ok-push-in-App, in-Var}

pub loop-equation-preserved : goal.loop-equation-preserved
loop-equation-preserved c = elim c.match-equation.branch [
  | in-Var w ↦
      let k : term_of c.equation-item.result.left ≡ variable w.in-Var.field-0 = search (rules, the_lemmas) in
      subst (λ all. Listed all (map equation_of (take (c.loop-equation.equation-index + 1) c.deref-equation-items.result.now)))
      (ap (λ v. v.items) (sym w.all-is))
      (heads_same c.deref-equation-items.result.now c.loop-equation.equation-index c.equation-item.result c.loop-equation.all.items
      c.loop-equation-test.true c.equation-item.is
      (λ f h. let e : apply f h.0 ≡ variable w.in-Var.field-0 = sym h.1 ∙ k in cc) c.loop-equation.invariant)
  | in-App+in_ok-push-in-App w ↦
      let ps = terms (map term_of w.in-App.field-1.items) in
      let k : term_of c.equation-item.result.left ≡ apply w.in-App.op.0 ps = search (rules, the_lemmas) in
      heads_more c.deref-equation-items.result.now c.loop-equation.equation-index c.equation-item.result w.in-App.op.0 c.loop-equation.all.items
      c.match-equation.all.items c.loop-equation-test.true c.equation-item.is (ps, k)
      (λ f h. let e : apply f h.0 ≡ apply w.in-App.op.0 ps = sym h.1 ∙ k in cc)
      (ap (λ v. v.items) w.all-is ∙ w.in_ok-push-in-App.ensures.items) c.loop-equation.invariant
]

pub returns : goal.returns
returns c =
    let theory = theory_of c.args.algebra.now in
    let seen = c.deref-equation-items.result.now in
    let listed : Listed c.loop-equation.all.items (map equation_of seen) =
    subst (λ xs. Listed c.loop-equation.all.items (map equation_of xs)) (take_all c.loop-equation.equation-index seen c.loop-equation-test.false)
    c.loop-equation.invariant in
    let all : Listed c.deref.result.now theory.equations =
    subst (λ xs. Listed xs theory.equations) (sym c.deref.ensures.value)
    (subst (λ xs. Listed c.loop-equation.all.items (map equation_of xs)) c.deref-equation-items.ensures.value listed) in
    record { exact = exact_heads theory c.deref.result.now all c.set_of.result c.set_of.ensures.exact }
