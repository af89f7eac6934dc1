use Rattle.std.proofs.Common.{rules, ◌≡◌, ◌≤◌, map, subst, sym, ◌∙◌, arith, ⊎_elim}
use Rattle.std.proofs.lemmas.List.{take_all}
use Rattle.spec_core.specs.declared.term.Term.TheFolds.{the_lemmas}
use Rattle.spec_core.specs.Terms.{apply, terms, term_of, Occurs, OccursInAny}
use Rattle.value_reference.proofs.TermLists.{occurs-next}
use Rattle.value_reference.proofs.matching.+variable_count.Goals as goal
use Rattle.value_reference.proofs.matching.+variable_count.Goals.{then-count-other, else-count-other}

pub loop-arg-preserved : goal.loop-arg-preserved
loop-arg-preserved t c =
    let least : c.loop-arg.count ≤ c.if-count-other.count =
    elim c.if-count-other.branch [ then-count-other w ↦ omega arith | else-count-other w ↦ omega arith ] in
    let other : c.variable_count-other.result ≤ c.if-count-other.count =
    elim c.if-count-other.branch [ then-count-other w ↦ omega arith | else-count-other w ↦ omega arith ] in
    record {
      above = λ x o. ⊎_elim
          (λ before. let h = c.loop-arg.invariant.above x before in omega (arith, h))
          (λ here. let h = c.variable_count-other.ensures.above x here in omega (arith, h))
          (occurs-next x _ _ c.arg-item.result c.loop-arg-test.true c.arg-item.is o);
      bounded = elim c.if-count-other.branch [ then-count-other w ↦ omega arith | else-count-other w ↦ omega arith ];
    }

pub returns-after-loop-arg-clause-above : goal.returns-after-loop-arg-clause-above
returns-after-loop-arg-clause-above t c = λ x o.
    let k : term_of c.args.term.now ≡ apply c.in-App.field-0.0 (terms (map term_of c.in-App.args.items)) = search (rules, the_lemmas) in
    let e = take_all c.loop-arg.arg-index c.deref-arg-items.result.now c.loop-arg-test.false ∙ c.deref-arg-items.ensures.value in
    c.loop-arg.invariant.above x (subst (λ ts. OccursInAny x (terms (map term_of ts))) (sym e) (subst (Occurs x) k o))
