use Rattle.std.proofs.Common.{rules, suc, ◌≡◌, ◌+◌, ◌-◌, ◌++◌, ◌∷◌, [], map, take, drop, length, ap, sym, subst, ◌∙◌, refl, arith}
use Rattle.std.proofs.Math.Seq.{split_at}
use Rattle.std.proofs.lemmas.List.{take_more, map-append}
use Rattle.std.proofs.lemmas.Result.{err_from_is_err_and, IfErr-weaker, IfOk-weaker}
use Rattle.spec_core.specs.declared.term.Term.TheFolds.{the_lemmas}
use Rattle.spec_core.specs.Budgets.{AreBeyond, TriesAreBeyond, AsksAreBeyond}
use Rattle.spec_core.specs.Evaluation.{EvaluatesAll, Tries, Asks, none, used, final, unlike, like}
use Rattle.spec_core.specs.Lists.{Each}
use Rattle.spec_core.specs.Orthogonality.{HasNoLooseVariables}
use Rattle.spec_core.specs.Substitutions.{substitution_of}
use Rattle.spec_core.specs.Terms.{apply, no_terms, terms, term_of}
use Rattle.spec_core.specs.Theories.{equation_of, premise_of, theory_of}
use Rattle.spec_core.proofs.Options.{if_ok_two}
use Rattle.spec_core.proofs.Lists.{map_none, map_first}
use Rattle.value_reference.proofs.Budgets.{arguments_beyond, call_beyond, list_beyond, right_beyond, unlike_beyond, like_beyond}
use Rattle.value_reference.proofs.Budgets.{rest_beyond, others_beyond}
use Rattle.value_reference.proofs.Steps.{called_at, evaluates_push, premise_holds, premise_fails}
use Rattle.value_reference.proofs.evaluation.+evaluation.Goals as goal
use Rattle.value_reference.proofs.evaluation.+evaluation.Goals.{ask_premises-then-sides+in_ok-rest-in-len1-up}
use Rattle.value_reference.proofs.evaluation.+evaluation.Goals.{ask_premises-else-sides+in_ok-rest-in-len1-up-2}

pub ask_premises-returns-in-empty-clause-value : goal.ask_premises-returns-in-empty-clause-value
ask_premises-returns-in-empty-clause-value t c =
    IfOk-weaker c.use_equation.result _ _
    (λ r h.
    subst (λ ps.
    Asks (theory_of c.args.algebra.now) ps (term_of c.args.right.now) (substitution_of (map term_of c.args.bound.now))
    (map equation_of c.args.others.now) c.args.op.0 (terms (map term_of c.args.values.now)) (term_of r.value) r.uses)
    (map_none premise_of c.args.premises.now c.in-empty.len_below) (used h.0 h.1 h.2))
    c.use_equation.ensures.value

pub ask_premises-returns-after-sides-clause-value : goal.ask_premises-returns-after-sides-clause-value
ask_premises-returns-after-sides-clause-value t c =
    subst (λ ps.
    Asks (theory_of c.args.algebra.now) ps (term_of c.args.right.now) (substitution_of (map term_of c.args.bound.now))
    (map equation_of c.args.others.now) c.args.op.0 (terms (map term_of c.args.values.now)) (term_of c.if-sides.rest.value)
    (c.in_ok-sides-in-len1-up.sides.uses + c.if-sides.rest.uses))
    (map_first premise_of c.args.premises.now c.premise-item.result c.in-len1-up.len_at_least c.premise-item.is)
    (elim c.if-sides.branch [
      | ask_premises-then-sides+in_ok-rest-in-len1-up w ↦
          subst (λ r.
          Asks (theory_of c.args.algebra.now)
          (premise_of c.premise-item.result ∷
          map premise_of (take (length c.args.premises.now - 1) (drop 1 c.args.premises.now)))
          (term_of c.args.right.now) (substitution_of (map term_of c.args.bound.now)) (map equation_of c.args.others.now)
          c.args.op.0 (terms (map term_of c.args.values.now)) (term_of r.value) (c.in_ok-sides-in-len1-up.sides.uses + r.uses))
          (sym w.rest-is)
          (premise_holds (theory_of c.args.algebra.now) _ _ _ _ _ _ _ _ _ c.in_ok-sides-in-len1-up.sides.equal _ _
          c.in_ok-sides-in-len1-up.ensures.sides w.if-sides.true w.in_ok-rest-in-len1-up.ensures.value)
      | ask_premises-else-sides+in_ok-rest-in-len1-up-2 w ↦
          subst (λ r.
          Asks (theory_of c.args.algebra.now)
          (premise_of c.premise-item.result ∷
          map premise_of (take (length c.args.premises.now - 1) (drop 1 c.args.premises.now)))
          (term_of c.args.right.now) (substitution_of (map term_of c.args.bound.now)) (map equation_of c.args.others.now)
          c.args.op.0 (terms (map term_of c.args.values.now)) (term_of r.value) (c.in_ok-sides-in-len1-up.sides.uses + r.uses))
          (sym w.rest-is)
          (premise_fails (theory_of c.args.algebra.now) _ _ _ _ _ _ _ _ _ c.in_ok-sides-in-len1-up.sides.equal _ _
          c.in_ok-sides-in-len1-up.ensures.sides w.if-sides.false w.in_ok-rest-in-len1-up-2.ensures.value)
    ])

pub evaluate-returns-in_ok-called-in-App-clause-value : goal.evaluate-returns-in_ok-called-in-App-clause-value
evaluate-returns-in_ok-called-in-App-clause-value t c =
    let k : term_of c.args.term.now ≡ apply c.in-App.op.0 (terms (map term_of c.in-App.args.items)) = search (rules, the_lemmas) in
    called_at (theory_of c.args.algebra.now) _ _ c.in-App.op.0 _ _ _ _ _ _ _ k
    (ap (λ ts. terms (map term_of ts)) c.deref.ensures.value) (ap (λ ts. terms (map term_of ts)) c.deref-in-App-2.ensures.value)
    (ap (map equation_of) c.deref-in-App.ensures.value)
    c.in_ok-all-in-App.ensures.values c.in_ok-called-in-App.ensures.value

pub evaluate_all-loop-term-init : goal.evaluate_all-loop-term-init
evaluate_all-loop-term-init t c = record {
  values =
      subst (λ ts. EvaluatesAll (theory_of c.args.algebra.now) no_terms (terms (map term_of ts)) 0) (sym c.new-values.ensures.items)
      (none refl);
  within = omega arith;
}

pub evaluate_all-loop-term-preserved : goal.evaluate_all-loop-term-preserved
evaluate_all-loop-term-preserved t c = record {
  values =
      let pushed =
      evaluates_push (theory_of c.args.algebra.now) (map term_of (take c.loop-term.term-index c.args.args.now))
      (map term_of c.loop-term.values.items) (term_of c.term-item.result) (term_of c.in_ok-next.next.value) c.loop-term.uses
      c.in_ok-next.next.uses c.loop-term.invariant.values c.in_ok-next.ensures.value in
      let before : take (c.loop-term.term-index + 1) c.args.args.now ≡
      take c.loop-term.term-index c.args.args.now ++ c.term-item.result ∷ [] =
      take_more c.args.args.now c.loop-term.term-index c.term-item.result c.loop-term-test.true
      ∙ ap (λ x. take c.loop-term.term-index c.args.args.now ++ x ∷ []) (sym c.term-item.is) in
      let ts = ap (map term_of) before ∙ map-append term_of (take c.loop-term.term-index c.args.args.now) (c.term-item.result ∷ []) in
      let vs = ap (map term_of) c.in_ok-push.ensures.items ∙ map-append term_of c.loop-term.values.items (c.in_ok-next.next.value ∷ []) in
      subst (λ xs.
      EvaluatesAll (theory_of c.args.algebra.now) (terms xs) (terms (map term_of c.push.new.self.items))
      (c.loop-term.uses + c.in_ok-next.next.uses))
      (sym ts)
      (subst (λ xs.
      EvaluatesAll (theory_of c.args.algebra.now)
      (terms (map term_of (take c.loop-term.term-index c.args.args.now) ++ term_of c.term-item.result ∷ [])) (terms xs)
      (c.loop-term.uses + c.in_ok-next.next.uses))
      (sym vs) pushed);
  within = omega (arith, c.loop-term.invariant.within, c.in_ok-next.ensures.within);
}

pub try_equations-returns-in-empty-clause-value : goal.try_equations-returns-in-empty-clause-value
try_equations-returns-in-empty-clause-value t c =
    if_ok_two c.itself.result
    (λ r value free.
    subst
    (λ es. Tries (theory_of c.args.algebra.now) es c.args.op.0 (terms (map term_of c.args.values.now)) (term_of r.value) r.uses)
    (map_none equation_of c.args.left.now c.in-empty.len_below) (final value free))
    c.itself.ensures.value c.itself.ensures.free

pub try_equations-returns-in-None-clause-value : goal.try_equations-returns-in-None-clause-value
try_equations-returns-in-None-clause-value t c =
    let unmatched = rw c.in-None.is at c.in_ok-matched-in-len1-up.ensures.none in
    IfOk-weaker c.try_equations.result _ _
    (λ r h.
    subst
    (λ es. Tries (theory_of c.args.algebra.now) es c.args.op.0 (terms (map term_of c.args.values.now)) (term_of r.value) r.uses)
    (map_first equation_of c.args.left.now c.equation-item.result c.in-len1-up.len_at_least c.equation-item.is) (unlike unmatched h))
    c.try_equations.ensures.value

pub try_equations-returns-in-Some-clause-value : goal.try_equations-returns-in-Some-clause-value
try_equations-returns-in-Some-clause-value t c =
    let matched = rw c.in-Some.is at c.in_ok-matched-in-len1-up.ensures.some in
    IfOk-weaker c.ask_premises.result _ _
    (λ r h.
    subst
    (λ es. Tries (theory_of c.args.algebra.now) es c.args.op.0 (terms (map term_of c.args.values.now)) (term_of r.value) r.uses)
    (map_first equation_of c.args.left.now c.equation-item.result c.in-len1-up.len_at_least c.equation-item.is)
    (like (substitution_of (map term_of c.in-Some.bound.items)) matched
    (subst (λ ps.
    Asks (theory_of c.args.algebra.now) (map premise_of ps) (term_of c.equation-item.result.right)
    (substitution_of (map term_of c.in-Some.bound.items))
    (map equation_of (take (length c.args.left.now - 1) (drop 1 c.args.left.now))) c.args.op.0
    (terms (map term_of c.args.values.now)) (term_of r.value) r.uses)
    c.deref.ensures.value
    (subst (λ bs.
    Asks (theory_of c.args.algebra.now) (map premise_of c.deref.result.now) (term_of c.equation-item.result.right)
    (substitution_of (map term_of bs)) (map equation_of (take (length c.args.left.now - 1) (drop 1 c.args.left.now)))
    c.args.op.0 (terms (map term_of c.args.values.now)) (term_of r.value) r.uses)
    c.deref-in-Some.ensures.value h))))
    c.ask_premises.ensures.value

pub ask_premises-returns-in_err-rest-in-len1-up-clause-spent : goal.ask_premises-returns-in_err-rest-in-len1-up-clause-spent
ask_premises-returns-in_err-rest-in-len1-up-clause-spent t c =
    let p = err_from_is_err_and c.from_residual-in_err-rest-in-len1-up.result c.from_residual-in_err-rest-in-len1-up.ensures.1 in
    let first = map_first premise_of c.args.premises.now c.premise-item.result c.in-len1-up.len_at_least c.premise-item.is in
    rw (p.1, p.2)
    (λ e closed tight.
    subst (λ ps.
    AsksAreBeyond (theory_of c.args.algebra.now) ps (term_of c.args.right.now) (substitution_of (map term_of c.args.bound.now))
    (map equation_of c.args.others.now) c.args.op.0 (terms (map term_of c.args.values.now)) c.args.budget)
    first
    (rest_beyond (theory_of c.args.algebra.now) closed _ _ _ _ _ _ _ _ c.in_ok-sides-in-len1-up.sides.equal _ _
    c.in_ok-sides-in-len1-up.ensures.within c.in_ok-sides-in-len1-up.ensures.sides c.if-sides.true
    (c.in_err-rest-in-len1-up.ensures.spent e closed tight)))

pub ask_premises-returns-in_err-rest-in-len1-up-2-clause-spent : goal.ask_premises-returns-in_err-rest-in-len1-up-2-clause-spent
ask_premises-returns-in_err-rest-in-len1-up-2-clause-spent t c =
    let p = err_from_is_err_and c.from_residual-in_err-rest-in-len1-up-2.result c.from_residual-in_err-rest-in-len1-up-2.ensures.1 in
    let first = map_first premise_of c.args.premises.now c.premise-item.result c.in-len1-up.len_at_least c.premise-item.is in
    rw (p.1, p.2)
    (λ e closed tight.
    subst (λ ps.
    AsksAreBeyond (theory_of c.args.algebra.now) ps (term_of c.args.right.now) (substitution_of (map term_of c.args.bound.now))
    (map equation_of c.args.others.now) c.args.op.0 (terms (map term_of c.args.values.now)) c.args.budget)
    first
    (others_beyond (theory_of c.args.algebra.now) closed _ _ _ _ _ _ _ _ c.in_ok-sides-in-len1-up.sides.equal _ _
    c.in_ok-sides-in-len1-up.ensures.within c.in_ok-sides-in-len1-up.ensures.sides c.if-sides.false
    (c.in_err-rest-in-len1-up-2.ensures.spent e closed tight)))

pub ask_sides-returns-in_err-right_value-clause-spent : goal.ask_sides-returns-in_err-right_value-clause-spent
ask_sides-returns-in_err-right_value-clause-spent t c =
    let p = err_from_is_err_and c.from_residual-in_err-right_value.result c.from_residual-in_err-right_value.ensures.1 in
    rw (p.1, p.2, ← c.in_ok-left.ensures.replaced, ← c.in_ok-right.ensures.replaced)
    (λ e closed.
    right_beyond (theory_of c.args.algebra.now) closed _ _ _ _ _ c.in_ok-left_value.ensures.within c.in_ok-left_value.ensures.value
    (c.in_err-right_value.ensures.spent e closed))

pub evaluate-returns-in_err-all-in-App-clause-spent : goal.evaluate-returns-in_err-all-in-App-clause-spent
evaluate-returns-in_err-all-in-App-clause-spent t c =
    let p = err_from_is_err_and c.from_residual.result c.from_residual.ensures.1 in
    let k : term_of c.args.term.now ≡ apply c.in-App.op.0 (terms (map term_of c.in-App.args.items)) = search (rules, the_lemmas) in
    rw (p.1, p.2)
    (λ e closed.
    arguments_beyond (theory_of c.args.algebra.now) _ _ _ _ _ k (ap (λ ts. terms (map term_of ts)) c.deref.ensures.value)
    (c.in_err-all-in-App.ensures.spent e closed))

pub evaluate-returns-in_err-called-in-App-clause-spent : goal.evaluate-returns-in_err-called-in-App-clause-spent
evaluate-returns-in_err-called-in-App-clause-spent t c =
    let p = err_from_is_err_and c.from_residual-in_err-called-in-App.result c.from_residual-in_err-called-in-App.ensures.1 in
    let k : term_of c.args.term.now ≡ apply c.in-App.op.0 (terms (map term_of c.in-App.args.items)) = search (rules, the_lemmas) in
    let all = ap (map equation_of) c.deref-in-App.ensures.value in
    rw (p.1, p.2)
    (λ e closed. call_beyond (theory_of c.args.algebra.now) closed _ _ _ _ _ _ _ _ _ k
    (ap (λ ts. terms (map term_of ts)) c.deref.ensures.value) (ap (λ ts. terms (map term_of ts)) c.deref-in-App-2.ensures.value) all
    c.in_ok-all-in-App.ensures.within c.in_ok-all-in-App.ensures.values
    (c.in_err-called-in-App.ensures.spent e closed (subst (Each HasNoLooseVariables) (sym all) closed)))

pub evaluate_all-returns-in_err-next-clause-spent : goal.evaluate_all-returns-in_err-next-clause-spent
evaluate_all-returns-in_err-next-clause-spent t c =
    let p = err_from_is_err_and c.from_residual.result c.from_residual.ensures.1 in
    let i = c.loop-term.term-index in
    let split : c.args.args.now ≡ take i c.args.args.now ++ c.term-item.result ∷ drop (suc i) c.args.args.now =
    split_at c.args.args.now i c.term-item.result c.loop-term-test.true
    ∙ ap (λ x. take i c.args.args.now ++ x ∷ drop (suc i) c.args.args.now) (sym c.term-item.is) in
    let parts = ap (map term_of) split ∙ map-append term_of (take i c.args.args.now) (c.term-item.result ∷ drop (suc i) c.args.args.now) in
    rw (p.1, p.2)
    (λ e closed. subst (λ ts. AreBeyond (theory_of c.args.algebra.now) (terms ts) c.args.budget) (sym parts)
    (list_beyond (theory_of c.args.algebra.now) closed _ _ _ _ _ _ c.loop-term.invariant.within c.loop-term.invariant.values
    (c.in_err-next.ensures.spent e closed)))

pub try_equations-returns-in-None-clause-spent : goal.try_equations-returns-in-None-clause-spent
try_equations-returns-in-None-clause-spent t c =
    let unmatched = rw c.in-None.is at c.in_ok-matched-in-len1-up.ensures.none in
    let first = map_first equation_of c.args.left.now c.equation-item.result c.in-len1-up.len_at_least c.equation-item.is in
    IfErr-weaker c.try_equations.result _ _
    (λ x h e closed tight.
    let each = subst (Each HasNoLooseVariables) (sym first) tight in
    subst (λ es. TriesAreBeyond (theory_of c.args.algebra.now) es c.args.op.0 (terms (map term_of c.args.values.now)) c.args.budget) first
    (unlike_beyond (theory_of c.args.algebra.now) _ _ _ _ _ unmatched (h e closed each.1)))
    c.try_equations.ensures.spent

pub try_equations-returns-in-Some-clause-spent : goal.try_equations-returns-in-Some-clause-spent
try_equations-returns-in-Some-clause-spent t c =
    let matched = rw c.in-Some.is at c.in_ok-matched-in-len1-up.ensures.some in
    let first = map_first equation_of c.args.left.now c.equation-item.result c.in-len1-up.len_at_least c.equation-item.is in
    let others = map equation_of (take (length c.args.left.now - 1) (drop 1 c.args.left.now)) in
    IfErr-weaker c.ask_premises.result _ _
    (λ x h e closed tight.
    let each = subst (Each HasNoLooseVariables) (sym first) tight in
    subst (λ es. TriesAreBeyond (theory_of c.args.algebra.now) es c.args.op.0 (terms (map term_of c.args.values.now)) c.args.budget) first
    (like_beyond (theory_of c.args.algebra.now) (equation_of c.equation-item.result) others c.args.op.0
    (terms (map term_of c.args.values.now)) c.args.budget (substitution_of (map term_of c.in-Some.bound.items)) each.0 matched
    (subst (λ ps.
    AsksAreBeyond (theory_of c.args.algebra.now) (map premise_of ps) (term_of c.equation-item.result.right)
    (substitution_of (map term_of c.in-Some.bound.items)) others c.args.op.0 (terms (map term_of c.args.values.now))
    c.args.budget)
    c.deref.ensures.value
    (subst (λ bs.
    AsksAreBeyond (theory_of c.args.algebra.now) (map premise_of c.deref.result.now) (term_of c.equation-item.result.right)
    (substitution_of (map term_of bs)) others c.args.op.0 (terms (map term_of c.args.values.now)) c.args.budget)
    c.deref-in-Some.ensures.value (h e closed each.1)))))
    c.ask_premises.ensures.spent
