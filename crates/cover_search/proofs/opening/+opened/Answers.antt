use Rattle.std.proofs.Common.{◌≡◌, ◌∙◌, ap, sym, subst, arith, None}
use Rattle.spec_core.specs.Terms.{term_of, terms}
use Rattle.spec_core.proofs.Options.{not_some}
use Rattle.cover_search.specs.Search.{faced}
use Rattle.cover_search.proofs.Facing.{is_there, same_item, not_faced_next, opened_nowhere, opened_there}
use Rattle.cover_search.proofs.opening.+opened.Goals as goal
use Rattle.cover_search.proofs.opening.+opened.Goals.{opened_any-then-i-rows+else-is_some, opened_any-else-i-rows}

pub opened_any-returns-then-is_some : goal.opened_any-returns-then-is_some
opened_any-returns-then-is_some t c =
    let s = is_there c.faced.result (sym c.is_some.ensures ∙ c.if-is_some.true) in
    opened_there (term_of c.args.replacement.now) c.args.rows.now c.args.patterns.now c.loop-i.all.items c.loop-i.i s.0 c.index-rows-i.result c.index-patterns-i.result c.in_ok-all-2.field-0 c.loop-i.invariant.before c.if-i-rows.true c.loop-i-test.true c.index-rows-i.is c.index-patterns-i.is (sym c.faced.ensures ∙ s.1) c.in_ok-all-2.ensures c.loop-i.invariant.same

pub opened_any-loop-i-preserved : goal.opened_any-loop-i-preserved
opened_any-loop-i-preserved t c = record {
  same = c.loop-i.invariant.same;
  before = not_faced_next c.args.rows.now c.args.patterns.now c.loop-i.i c.index-patterns-i.result c.loop-i.invariant.before c.loop-i-test.true c.index-patterns-i.is (λ r v a. elim c.if-i-rows.branch [
    | opened_any-then-i-rows+else-is_some w ↦ subst (λ x. faced (term_of x) (term_of c.index-patterns-i.result) ≡ None) (same_item c.args.rows.now c.loop-i.i w.index-rows-i.result r v w.index-rows-i.is a) (sym w.faced.ensures ∙ not_some w.faced.result (sym w.is_some.ensures ∙ w.if-is_some.false))
    | opened_any-else-i-rows w ↦ absurd (omega (arith, v, w.if-i-rows.false))
  ]);
}

pub opened_any-returns : goal.opened_any-returns
opened_any-returns t c = ap terms c.loop-i.invariant.same ∙ sym (opened_nowhere (term_of c.args.replacement.now) c.args.rows.now c.args.patterns.now c.loop-i.i c.loop-i.invariant.before c.loop-i-test.false)
