use Rattle.std.proofs.Common.{rules, ◌≡◌, map, ap, sym, subst, ◌∙◌, arith, ⊎_elim}
use Rattle.std.proofs.lemmas.List.{take_all}
use Rattle.spec_core.specs.declared.term.Term.TheFolds.{the_lemmas}
use Rattle.spec_core.specs.Terms.{apply, terms, term_of, Occurs, OccursInAny}
use Rattle.value_reference.proofs.Outcomes.{if_some_implied, if_none_holds}
use Rattle.value_reference.proofs.TermLists.{occurs-next, parts_match, instances-length, instance-at}
use Rattle.value_reference.proofs.matching.+value_at.Goals as goal
use Rattle.value_reference.proofs.matching.+value_at.Goals.{then-i-len+else-is_some, else-i-len}

pub returns-then-is_some-clause-some : goal.returns-then-is_some-clause-some
returns-then-is_some-clause-some t c =
    let a : term_of c.args.pattern.now ≡ apply c.in-App.field-0.0 (terms (map term_of c.in-App.patterns.items)) =
    search (rules, the_lemmas) in
    let b : term_of c.args.value.now ≡ apply c.in-App-value.field-0.0 (terms (map term_of c.in-App-value.values.items)) =
    search (rules, the_lemmas) in
    let a' = a ∙ ap (λ ts. apply c.in-App.field-0.0 (terms (map term_of ts))) (sym c.deref-part-items.ensures.value) in
    if_some_implied c.value_at-found.result
    (λ found h s e.
    h s (instance-at s c.deref-part-items.result.now c.in-App-value.values.items c.loop-i.i c.part-item.result c.index.result.now
    (parts_match s _ _ _ _ _ _ a' b e) c.loop-i-test.true c.part-item.is c.index.ensures))
    c.value_at-found.ensures.some

pub loop-i-preserved : goal.loop-i-preserved
loop-i-preserved t c = λ s e o.
    ⊎_elim
    (λ before. c.loop-i.invariant s e before)
    (λ here. elim c.if-i-len.branch [
      | then-i-len+else-is_some w ↦ if_none_holds w.value_at-found.result (sym w.is_some.ensures ∙ w.if-is_some.false)
          w.value_at-found.ensures.none s
          (instance-at s c.deref-part-items.result.now c.in-App-value.values.items c.loop-i.i c.part-item.result w.index.result.now e
          c.loop-i-test.true c.part-item.is w.index.ensures)
          here
      | else-i-len w ↦ let n = instances-length s c.deref-part-items.result.now c.in-App-value.values.items e in absurd (omega (arith, n))
    ])
    (occurs-next c.args.variable _ _ c.part-item.result c.loop-i-test.true c.part-item.is o)

pub returns-after-loop-i-clause-none : goal.returns-after-loop-i-clause-none
returns-after-loop-i-clause-none t c = λ s e o.
    let a : term_of c.args.pattern.now ≡ apply c.in-App.field-0.0 (terms (map term_of c.in-App.patterns.items)) =
    search (rules, the_lemmas) in
    let b : term_of c.args.value.now ≡ apply c.in-App-value.field-0.0 (terms (map term_of c.in-App-value.values.items)) =
    search (rules, the_lemmas) in
    let a' = a ∙ ap (λ ts. apply c.in-App.field-0.0 (terms (map term_of ts))) (sym c.deref-part-items.ensures.value) in
    c.loop-i.invariant s (parts_match s _ _ _ _ _ _ a' b e)
    (subst (λ ts. OccursInAny c.args.variable (terms (map term_of ts))) (sym (take_all c.loop-i.i _ c.loop-i-test.false))
    (subst (Occurs c.args.variable) a' o))
