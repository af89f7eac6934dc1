use Rattle.std.proofs.Common.{◌≡◌, ◌∙◌, Some, None, map, ap, sym, subst}
use Rattle.spec_core.specs.Terms.{term_of, terms}
use Rattle.spec_core.specs.Theories.{theory_of}
use Rattle.cover_search.specs.Search.{faced_any, arguments_of, rows_of, stack_of, AreAlternatives}
use Rattle.cover_search.specs.Candidates.{AreMeeting}
use Rattle.cover_search.proofs.Candidates.{covered_by}
use Rattle.cover_search.proofs.Ending.{fewer_after, fewer_split}
use Rattle.cover_search.proofs.Stacking.{after_covered, after_split, not_facing}
use Rattle.cover_search.proofs.search.step.Goals as goal

pub returns-then-some_covers-clause-left : goal.returns-then-some_covers-clause-left
returns-then-some_covers-clause-left c = λ e. after_covered (theory_of c.args.algebra.now) (rows_of c.args.rows.now) (terms (map term_of c.args.pattern.now)) (stack_of c.args.todo.now.items) (covered_by (rows_of c.args.rows.now) (terms (map term_of c.args.pattern.now)) c.deref.result.now (c.some_covers.ensures.0 c.if-some_covers.true))

pub returns-in-None-clause-found : goal.returns-in-None-clause-found
returns-in-None-clause-found c = λ e. c.in-None.ensures.none (terms (map term_of c.args.pattern.now)) (subst (AreMeeting (rows_of c.args.rows.now) (terms (map term_of c.args.pattern.now))) (sym c.deref-2.ensures.value) c.in_ok-numbers.ensures)

pub returns-in-None-facing-clause-left : goal.returns-in-None-facing-clause-left
returns-in-None-facing-clause-left c = λ e.
    let ps = terms (map term_of c.args.pattern.now) in
    let none : faced_any (arguments_of c.in-Some.row.now) ps ≡ None = ap (λ xs. faced_any (terms (map term_of xs)) ps) (sym c.deref-cells.ensures.value) ∙ sym c.faced_any-facing.ensures ∙ c.in-None-facing.is in
    after_covered (theory_of c.args.algebra.now) (rows_of c.args.rows.now) ps (stack_of c.args.todo.now.items) (not_facing (theory_of c.args.algebra.now) (rows_of c.args.rows.now) (rows_of c.args.rows.now) ps (arguments_of c.in-Some.row.now) (c.in-Some.ensures.some (terms (map term_of c.args.pattern.now)) (subst (AreMeeting (rows_of c.args.rows.now) (terms (map term_of c.args.pattern.now))) (sym c.deref-2.ensures.value) c.in_ok-numbers.ensures)) none)

pub returns-clause-left : goal.returns-clause-left
returns-clause-left c = λ e.
    let theory = theory_of c.args.algebra.now in
    let ps = terms (map term_of c.args.pattern.now) in
    let sort = c.in-Some-facing.sort in
    let at : faced_any (arguments_of c.in-Some.row.now) ps ≡ Some sort = ap (λ xs. faced_any (terms (map term_of xs)) ps) (sym c.deref-cells.ensures.value) ∙ sym c.faced_any-facing.ensures ∙ c.in-Some-facing.is in
    after_split theory (rows_of c.args.rows.now) ps (arguments_of c.in-Some.row.now) sort (stack_of c.args.todo.now.items) (stack_of c.push_alternatives.new.todo.items) at
    (subst (λ xs. AreAlternatives theory sort (terms (map term_of xs)) ps 0 (stack_of c.args.todo.now.items) (stack_of c.push_alternatives.new.todo.items)) c.deref-cells.ensures.value c.in_ok-push_alternatives-in-Some-facing.ensures.alternatives)

pub returns-then-some_covers-clause-fewer : goal.returns-then-some_covers-clause-fewer
returns-then-some_covers-clause-fewer c = λ e. fewer_after (theory_of c.args.algebra.now) (rows_of c.args.rows.now) (terms (map term_of c.args.pattern.now)) (stack_of c.args.todo.now.items)

pub returns-in-None-facing-clause-fewer : goal.returns-in-None-facing-clause-fewer
returns-in-None-facing-clause-fewer c = λ e. fewer_after (theory_of c.args.algebra.now) (rows_of c.args.rows.now) (terms (map term_of c.args.pattern.now)) (stack_of c.args.todo.now.items)

pub returns-clause-fewer : goal.returns-clause-fewer
returns-clause-fewer c = λ e.
    let theory = theory_of c.args.algebra.now in
    let ps = terms (map term_of c.args.pattern.now) in
    let sort = c.in-Some-facing.sort in
    let at : faced_any (arguments_of c.in-Some.row.now) ps ≡ Some sort = ap (λ xs. faced_any (terms (map term_of xs)) ps) (sym c.deref-cells.ensures.value) ∙ sym c.faced_any-facing.ensures ∙ c.in-Some-facing.is in
    fewer_split theory (rows_of c.args.rows.now) ps (arguments_of c.in-Some.row.now) sort (stack_of c.args.todo.now.items) (stack_of c.push_alternatives.new.todo.items) (c.in-Some.ensures.some (terms (map term_of c.args.pattern.now)) (subst (AreMeeting (rows_of c.args.rows.now) (terms (map term_of c.args.pattern.now))) (sym c.deref-2.ensures.value) c.in_ok-numbers.ensures)) at
    (subst (λ xs. AreAlternatives theory sort (terms (map term_of xs)) ps 0 (stack_of c.args.todo.now.items) (stack_of c.push_alternatives.new.todo.items)) c.deref-cells.ensures.value c.in_ok-push_alternatives-in-Some-facing.ensures.alternatives)

pub returns-clause-candidates : goal.returns-clause-candidates
returns-clause-candidates c = λ e all.
    let rows = rows_of c.args.rows.now in
    let ps = terms (map term_of c.args.pattern.now) in
    c.in_ok-push_alternatives-in-Some-facing.ensures.candidates rows c.deref-in-Some-facing.result.now c.in_ok-split-in-Some-facing.ensures
    (subst (AreMeeting rows ps) (sym c.deref-in-Some-facing.ensures.value) c.in_ok-numbers.ensures) all
