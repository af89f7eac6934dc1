use Rattle.std.proofs.Common.{rules, ◌≡◌, ◌∙◌, ◌<◌, ◌∷◌, [], Ok, length, map, ap, sym, subst}
use Rattle.std.proofs.lemmas.List.{nil_from_length}
use Rattle.spec_core.specs.Lists.{Each}
use Rattle.spec_core.specs.Terms.{term_of, terms}
use Rattle.spec_core.specs.Theories.{theory_of}
use Rattle.equation_shapes.specs.Shapes.{MeetAll}
use Rattle.cover_search.specs.Search.{arguments_of, rows_of, stack_of, LeadsBack}
use Rattle.cover_search.specs.Turns.{turns_left}
use Rattle.spec_core.proofs.Lists.{each_left, each_middle, each_push}
use Rattle.cover_search.specs.Candidates.{AreCandidates, HasCandidates}
use Rattle.cover_search.specs.declared.pending.Pending.{Pending}
use Rattle.cover_search.proofs.Stacking.{back_to, back_through, popped}
use Rattle.cover_search.proofs.search.uncovered_pattern.Goals as goal

pub loop-pending-init : goal.loop-pending-init
loop-pending-init c =
    let rows = rows_of c.args.rows.now in
    let pending : Pending = record { pattern = c.args.start; candidates = c.in_ok-candidates.candidates } in
    let same = popped c.push.new.self.items c.new-todo.result.items pending c.in_ok-push.ensures.items
    ∙ ap (λ xs. arguments_of c.args.start ∷ stack_of xs) c.new-todo.ensures.items in
    record {
      back = back_to (theory_of c.args.algebra.now) rows (arguments_of c.args.start ∷ []) (stack_of c.push.new.self.items) (sym same);
      candidates = subst (Each (HasCandidates rows)) (sym c.in_ok-push.ensures.items)
          (each_push (HasCandidates rows) c.new-todo.result.items pending
          (subst (Each (HasCandidates rows)) (sym c.new-todo.ensures.items) tt) (c.in_ok-candidates.ensures (arguments_of c.args.start)));
    }

pub step-requires-clause-candidates : goal.step-requires-clause-candidates
step-requires-clause-candidates c =
    let rows = rows_of c.args.rows.now in
    let one : HasCandidates rows c.in-Some.pending = each_middle (HasCandidates rows) c.pop.new.self.items [] c.in-Some.pending
    (subst (Each (HasCandidates rows)) c.in-Some.ensures.items c.loop-pending.invariant.candidates) in
    subst (λ xs. AreCandidates rows (terms (map term_of xs)) c.deref-candidates.result.now) (sym c.deref-pattern.ensures.value)
    (subst (AreCandidates rows (arguments_of c.in-Some.pending.pattern)) (sym c.deref-candidates.ensures.value) one)

pub returns : goal.returns
returns c =
    let theory = theory_of c.args.algebra.now in
    let rows = rows_of c.args.rows.now in
    let n : length c.loop-pending.todo.items ≡ 0 = search rules in
    let back = subst (λ xs. LeadsBack theory rows (arguments_of c.args.start ∷ []) (stack_of xs)) (nil_from_length c.loop-pending.todo.items n) c.loop-pending.invariant.back in
    record { covered = λ sorts h. (back.covered sorts (h, tt) tt).0; uncovered = tt }

pub returns-then-uncovered : goal.returns-then-uncovered
returns-then-uncovered c =
    let theory = theory_of c.args.algebra.now in
    let rows = rows_of c.args.rows.now in
    let e = popped c.loop-pending.todo.items c.pop.new.self.items c.in-Some.pending c.in-Some.ensures.items in
    let back = subst (LeadsBack theory rows (arguments_of c.args.start ∷ [])) e c.loop-pending.invariant.back in
    record {
      covered = tt;
      uncovered = λ sorts h m. record {
        sorted = (back.sorted sorts (h, tt)).0;
        made = (back.made (m, tt)).0;
        unmet = subst (λ xs. Each (λ r. MeetAll r (terms (map term_of xs)) → ⊥) rows) c.deref-pattern.ensures.value (c.in_ok-uncovered.ensures.found (ap Ok c.if-uncovered.true));
      };
    }

pub loop-pending-preserved : goal.loop-pending-preserved
loop-pending-preserved c =
    let theory = theory_of c.args.algebra.now in
    let rows = rows_of c.args.rows.now in
    let e = popped c.loop-pending.todo.items c.pop.new.self.items c.in-Some.pending c.in-Some.ensures.items in
    record {
      back = back_through theory rows (arguments_of c.args.start ∷ []) (arguments_of c.in-Some.pending.pattern ∷ stack_of c.pop.new.self.items) (stack_of c.step.new.todo.items)
          (subst (LeadsBack theory rows (arguments_of c.args.start ∷ [])) e c.loop-pending.invariant.back)
          (subst (λ xs. LeadsBack theory rows (terms (map term_of xs) ∷ stack_of c.pop.new.self.items) (stack_of c.step.new.todo.items)) c.deref-pattern.ensures.value (c.in_ok-uncovered.ensures.left (ap Ok c.if-uncovered.false)));
      candidates = c.in_ok-uncovered.ensures.candidates (ap Ok c.if-uncovered.false)
          (each_left (HasCandidates rows) c.pop.new.self.items (c.in-Some.pending ∷ [])
          (subst (Each (HasCandidates rows)) c.in-Some.ensures.items c.loop-pending.invariant.candidates));
    }

pub loop-pending-smaller : goal.loop-pending-smaller
loop-pending-smaller c =
    let theory = theory_of c.args.algebra.now in
    let rows = rows_of c.args.rows.now in
    let e = popped c.loop-pending.todo.items c.pop.new.self.items c.in-Some.pending c.in-Some.ensures.items in
    subst (λ xs. turns_left theory rows (stack_of c.step.new.todo.items) < turns_left theory rows xs) (sym e)
    (subst (λ xs. turns_left theory rows (stack_of c.step.new.todo.items) < turns_left theory rows (terms (map term_of xs) ∷ stack_of c.pop.new.self.items)) c.deref-pattern.ensures.value
    (c.in_ok-uncovered.ensures.fewer (ap Ok c.if-uncovered.false)))
