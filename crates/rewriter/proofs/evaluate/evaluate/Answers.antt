use Rattle.std.proofs.Common.{[], map, length, arith, sym, ap, subst, ◌∙◌}
use Rattle.spec_core.specs.Lists.{Each}
use Rattle.spec_core.specs.Terms.{term_of}
use Rattle.spec_core.specs.Sorts.{no_variables}
use Rattle.spec_core.specs.Theories.{theory_of}
use Rattle.value_nodes.specs.Nodes.{tree_at, IsNode}
use Rattle.rewriter.specs.Machine.{Evaluating, Keeps, Comes, plan, AreCounted}
use Rattle.rewriter.specs.Steps.{task_of, put_by, IsStep}
use Rattle.data_laws.proofs.Settled.{evaluation_gives_values}
use Rattle.rewriter.proofs.Arities.{sorted_arities}
use Rattle.rewriter.proofs.Turns.{begin, begin_counted, no_variable}
use Rattle.data_laws.proofs.Words.{ground_sorted}
use Rattle.rewriter.proofs.evaluate.evaluate.Goals as goal

pub push_instance-requires : goal.push_instance-requires
push_instance-requires c = record {
  room = λ x o. absurd (no_variable (term_of c.args.term.now)
      (ground_sorted (theory_of c.args.algebra.now) (term_of c.args.term.now) c.requires.fits.0 c.requires.fits.1) x o);
}

pub run-requires-clause-ready : goal.run-requires-clause-ready
run-requires-clause-ready c =
    let t = theory_of c.args.algebra.now in
    let g = ground_sorted t (term_of c.args.term.now) c.requires.fits.0 c.requires.fits.1 in
    record {
      steps = c.in_ok-push_instance.ensures.steps t c.new-nodes.result
          (sorted_arities t no_variables (term_of c.args.term.now) c.requires.fits.0 c.requires.fits.1) (λ x o. absurd (no_variable (term_of c.args.term.now) g x o))
          (subst (Each (IsStep t c.new-nodes.result)) (sym c.new-todo.ensures.none) tt);
      values = subst (Each (IsNode c.new-nodes.result)) (sym c.new-values.ensures.none) tt;
      own = λ i h. absurd (let e = ap length c.new-nodes.ensures.none in omega (arith, h, e));
      small = λ i h. absurd (let e = ap length c.new-nodes.ensures.none in omega (arith, h, e));
      counted =
          let rows = c.new-nodes.result in
          let term = term_of c.args.term.now in
          let s = put_by rows c.deref.result.now in
          let p = c.in_ok-push_instance.ensures.planned t rows
          ∙ ap (λ todo. plan s term (map (task_of t rows) todo)) c.new-todo.ensures.none in
          let v = ap (map (tree_at rows)) c.new-values.ensures.none in
          subst (λ tasks. AreCounted t 0 tasks (map (tree_at rows) c.new-values.result)) (sym p)
          (subst (AreCounted t 0 (plan s term [])) (sym v) (begin_counted t term g c.requires.executable.orthogonal.closed s));
    }

pub run-requires-clause-begun : goal.run-requires-clause-begun
run-requires-clause-begun c =
    let t = theory_of c.args.algebra.now in
    let rows = c.new-nodes.result in
    let term = term_of c.args.term.now in
    let s = put_by rows c.deref.result.now in
    let g = ground_sorted t term c.requires.fits.0 c.requires.fits.1 in
    let p = c.in_ok-push_instance.ensures.planned t rows ∙ ap (λ todo. plan s term (map (task_of t rows) todo)) c.new-todo.ensures.none in
    let v = ap (map (tree_at rows)) c.new-values.ensures.none in
    let k = begin t term g s in
    let i = subst (λ tasks. Keeps (Evaluating t term) 0 (Comes t tasks []) 0) (sym p) k in
    let j = subst (λ vals. Keeps (Evaluating t term) 0 (Comes t (map (task_of t rows) c.push_instance.new.todo) vals) 0) (sym v) i in
    record { back = j.back; on = j.on; met = j.met; large = j.large }

pub returns-clause-value : goal.returns-clause-value
returns-clause-value c =
    let r = c.in_ok-node.ensures.value in
    record {
      value = tree_at c.run.new.nodes c.in_ok-node.node;
      spelled = c.in_ok-value.ensures.spelled;
      has = evaluation_gives_values (theory_of c.args.algebra.now) c.requires.executable (term_of c.args.term.now)
          (tree_at c.run.new.nodes c.in_ok-node.node) r.0 c.requires.fits r.1;
      uses = r.0;
      evaluates = r.1;
      within = r.2;
      small = c.in_ok-node.ensures.small;
    }
