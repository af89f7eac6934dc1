use Rattle.std.proofs.Common.{ℕ, ◌∙◌, sym, ap, get_or, codes}
use Rattle.std.specs.List.{slice_get, filter_map}
use Rattle.sort_overloads.specs.Views.{context_of}
use Rattle.static_equations.specs.Truths.{boolean_constant}
use Rattle.static_equations.specs.Views.{truth_of}
use Rattle.static_equations.proofs.Firsts.{first-found, none-more, itself}
use Rattle.static_equations.proofs.truth.truth.Goals as goal

pub returns-in-Some : goal.returns-in-Some
returns-in-Some c =
    let context = context_of c.args.scope.now in
    let numbers = c.in_ok-number-items.number-items.now in
    let i = c.loop-number.number-index in
    let h = λ (f : ℕ). boolean_constant context.sorts f (slice_get context.operations f) in
    let found = first-found h numbers i 0 _ c.loop-number-test.true c.loop-number.invariant (sym c.boolean_constant.ensures ∙ ap truth_of c.in-Some.is) in
    record { truth = sym (ap (λ ns. slice_get (filter_map h ns) 0) (sym (c.in_ok-number-items.ensures.numbers ∙ c.requires.index (codes "true"))) ∙ found) }

pub loop-number-preserved : goal.loop-number-preserved
loop-number-preserved c =
    let context = context_of c.args.scope.now in
    let numbers = c.in_ok-number-items.number-items.now in
    let i = c.loop-number.number-index in
    none-more (λ f. boolean_constant context.sorts f (slice_get context.operations f)) numbers i (get_or numbers i 0) c.loop-number-test.true (itself numbers i c.loop-number-test.true) c.loop-number.invariant
    (sym c.boolean_constant.ensures ∙ ap truth_of c.in-None.is)
