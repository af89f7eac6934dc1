use Rattle.std.proofs.Common.{◌∙◌, ◌∷◌, map, ap, subst, sym, refl, inl, inr}
use Rattle.spec_core.specs.Numbers.{sort_number}
use Rattle.spec_core.specs.Terms.{apply, term_of, terms}
use Rattle.spec_core.specs.Lists.{Each}
use Rattle.spec_core.proofs.Lists.{each_push, untrue}
use Rattle.cover_search.specs.Candidates.{AreCandidates, HasCandidates}
use Rattle.cover_search.specs.Search.{variables, opened_any, stack_of}
use Rattle.cover_search.specs.Sorts.{AreIn}
use Rattle.cover_search.proofs.Stacking.{popped}
use Rattle.cover_search.proofs.Candidates.{opened_candidates}
use Rattle.cover_search.proofs.alternatives.push_alternative.Goals as goal

pub returns-then-not-are_in-clause-opened : goal.returns-then-not-are_in-clause-opened
returns-then-not-are_in-clause-opened c =
    inr ((λ i. untrue (c.if-not-are_in.ensures.decides.1 (subst (λ xs. AreIn c.args.inhabited.now (map sort_number xs)) (sym c.deref.ensures.value) i))), refl)

pub returns-clause-opened : goal.returns-clause-opened
returns-clause-opened c =
    let row = terms (map term_of c.args.row.now) in
    let ps = terms (map term_of c.args.pattern.now) in
    let old = stack_of c.args.todo.now.items in
    inl (
      subst (λ xs. AreIn c.args.inhabited.now (map sort_number xs)) c.deref.ensures.value (c.are_in.ensures.decides.0 c.if-not-are_in.false),
      popped c.push.new.self.items c.args.todo.now.items _ c.in_ok-push.ensures.items
          ∙ ap (λ x. x ∷ old) c.in_ok-items.ensures
          ∙ ap (λ t. opened_any t row ps ∷ old) c.in_ok-made.ensures
          ∙ ap (λ xs. opened_any (apply c.args.op.0 (variables (map sort_number xs))) row ps ∷ old) c.deref-2.ensures.value,
    )

pub returns-clause-candidates : goal.returns-clause-candidates
returns-clause-candidates c = λ rows numbers is h all.
    let row = terms (map term_of c.args.row.now) in
    let ps = terms (map term_of c.args.pattern.now) in
    let us = variables (map sort_number c.deref-2.result.now) in
    let candidates = c.in_ok-candidates.candidates.items in
    subst (Each (HasCandidates rows)) (sym c.in_ok-push.ensures.items)
    (each_push (HasCandidates rows) c.args.todo.now.items _ all
    (subst (λ qs. AreCandidates rows qs candidates) (sym (c.in_ok-items.ensures ∙ ap (λ t. opened_any t row ps) c.in_ok-made.ensures))
    (opened_candidates rows row ps c.args.op.0 us c.args.split.now numbers candidates is h c.in_ok-candidates.ensures)))
