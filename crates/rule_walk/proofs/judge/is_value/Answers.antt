use Rattle.std.proofs.Common.{refl, inl, inr, subst, sym, ◌∙◌}
use Rattle.std.proofs.lemmas.Result.{err_from_is_err_and}
use Rattle.spec_core.specs.Constructors.{IsConstructor}
use Rattle.spec_core.specs.Lists.{Each}
use Rattle.spec_core.specs.Terms.{term_of}
use Rattle.spec_core.specs.Theories.{theory_of}
use Rattle.spec_core.proofs.Lists.{untrue}
use Rattle.data_laws.proofs.Whole.{constructor_terms_are_values}
use Rattle.rewriter.proofs.Sides.{within_of}
use Rattle.value_terms.proofs.Stacked.{spells_constructed, constructed_spelled}
use Rattle.value_terms.proofs.Values.{own_value, value_own}
use Rattle.rule_walk.proofs.judge.is_value.Goals as goal

pub returns-then-are_constructors-clause-decides : goal.returns-then-are_constructors-clause-decides
returns-then-are_constructors-clause-decides c =
    let theory = theory_of c.args.prepared.now.checked.now.algebra in
    let t = term_of c.args.term.now in
    let all = subst (Each (IsConstructor theory)) c.as_slice.ensures.spelled (c.if-are_constructors.ensures.0 refl) in
    let made = spells_constructed theory c.args.value.now t c.requires.fits.0
    (record { spelled = c.requires.spelled; of_sort = c.requires.fits.1 }) all in
    (λ h. constructor_terms_are_values theory c.requires.executable t c.requires.fits made, λ v. refl)

pub returns-then-are_constructors-clause-within : goal.returns-then-are_constructors-clause-within
returns-then-are_constructors-clause-within c = λ none.
    let theory = theory_of c.args.prepared.now.checked.now.algebra in
    let all = subst (Each (IsConstructor theory)) c.as_slice.ensures.spelled (c.if-are_constructors.ensures.0 refl) in
    absurd (none (spells_constructed theory c.args.value.now (term_of c.args.term.now) c.requires.fits.0
    (record { spelled = c.requires.spelled; of_sort = c.requires.fits.1 }) all))

pub returns-in_err-own-clause-evaluated : goal.returns-in_err-own-clause-evaluated
returns-in_err-own-clause-evaluated c =
    let theory = theory_of c.args.prepared.now.checked.now.algebra in
    let p = err_from_is_err_and c.from_residual.result c.from_residual.ensures.1 in
    rw (p.1, p.2)
    (inr (λ k. untrue (c.if-are_constructors.ensures.1 (subst (Each (IsConstructor theory)) (sym c.as_slice.ensures.spelled)
    (constructed_spelled theory c.args.value.now (term_of c.args.term.now) c.requires.fits.0
    (record { spelled = c.requires.spelled; of_sort = c.requires.fits.1 }) k)))))

pub returns-clause-decides : goal.returns-clause-decides
returns-clause-decides c =
    let theory = theory_of c.args.prepared.now.checked.now.algebra in
    let t = term_of c.args.term.now in (
      λ h. own_value theory c.requires.executable t c.in_ok-own.own c.args.budget c.requires.fits c.in_ok-own.ensures.value
          (c.same.ensures.decides.0 h ∙ c.requires.spelled),
      λ v. c.same.ensures.decides.1
          (value_own theory c.requires.executable t c.in_ok-own.own c.args.budget c.requires.fits c.in_ok-own.ensures.value v
          ∙ sym c.requires.spelled),
    )

pub returns-clause-within : goal.returns-clause-within
returns-clause-within c = λ none.
    within_of (theory_of c.args.prepared.now.checked.now.algebra) (term_of c.args.term.now) c.args.budget c.in_ok-own.own c.in_ok-own.ensures.value
