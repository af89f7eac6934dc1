use Rattle.std.proofs.Common.{◌≡◌, List, map, ap, sym, subst, ◌∙◌}
use Rattle.std.specs.List.{slice_get}
use Rattle.std.proofs.lemmas.Result.{IfOk-weaker}
use Rattle.spec_core.specs.declared.items.Sort.{Sort}
use Rattle.spec_core.specs.Cover.{IsFull}
use Rattle.spec_core.specs.Numbers.{sort_number}
use Rattle.spec_core.specs.Orthogonality.{HasPatterns}
use Rattle.spec_core.specs.Sorts.{EquationFits}
use Rattle.spec_core.specs.Theories.{equation_of, theory_of}
use Rattle.spec_core.proofs.Members.{each_one}
use Rattle.cover_groups.specs.Fullness.{AllFit}
use Rattle.cover_groups.specs.Groups.{premises_of, premises_at}
use Rattle.cover_groups.proofs.Fitting.{group_fits}
use Rattle.cover_groups.proofs.Grouping.{full_group_if, no_variable}
use Rattle.cover_groups.proofs.group.has_full_group.Goals as goal

pub group_lists-requires-clause-applied : goal.group_lists-requires-clause-applied
group_lists-requires-clause-applied c =
    let theory = theory_of c.args.algebra.now in
    let e = equation_of c.args.equation.now in
    no_variable theory e (each_one (HasPatterns theory) theory.equations e c.requires.orthogonal.patterns c.requires.listed)

pub is_full-requires-clause-terms : goal.is_full-requires-clause-terms
is_full-requires-clause-terms c =
    let theory = theory_of c.args.algebra.now in
    let e = equation_of c.args.equation.now in
    let lists = map premises_of c.in_ok-lists.lists.items in
    let h = group_fits theory e lists c.requires.fits.equations c.requires.orthogonal.closed
    (each_one (EquationFits theory) theory.equations e c.requires.fits.equations c.requires.listed)
    (no_variable theory e (each_one (HasPatterns theory) theory.equations e c.requires.orthogonal.patterns c.requires.listed))
    c.in_ok-lists.ensures in
    let same : map premises_at c.deref-3.result.now ≡ lists =
    ap (map premises_at) c.deref-3.ensures.value ∙ c.in_ok-all.ensures ∙ ap (map premises_of) c.deref.ensures.value in
    subst (λ (xs : List Sort). AllFit theory (slice_get (map sort_number xs)) (map premises_at c.deref-3.result.now)) (sym c.deref-4.ensures.value)
    (subst (AllFit theory (slice_get e.sorts)) (sym same) h)

pub returns : goal.returns
returns c =
    let theory = theory_of c.args.algebra.now in
    let e = equation_of c.args.equation.now in
    let lists = map premises_of c.in_ok-lists.lists.items in
    let same : map premises_at c.deref-3.result.now ≡ lists =
    ap (map premises_at) c.deref-3.ensures.value ∙ c.in_ok-all.ensures ∙ ap (map premises_of) c.deref.ensures.value in
    record {
      decides = IfOk-weaker c.is_full.result _ _
          (λ full h. (
            (λ i. record {
              lists = lists;
              group = c.in_ok-lists.ensures;
              full = subst (IsFull theory (slice_get e.sorts)) same
                  (subst (λ (xs : List Sort). IsFull theory (slice_get (map sort_number xs)) (map premises_at c.deref-3.result.now)) c.deref-4.ensures.value (h.0 i));
            }),
            (λ g. h.1
                (subst (λ (xs : List Sort). IsFull theory (slice_get (map sort_number xs)) (map premises_at c.deref-3.result.now)) (sym c.deref-4.ensures.value)
                (subst (IsFull theory (slice_get e.sorts)) (sym same) (full_group_if theory e lists c.requires.orthogonal.closed c.in_ok-lists.ensures g)))),
          ))
          c.is_full.ensures;
    }
