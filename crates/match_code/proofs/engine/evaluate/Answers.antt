use Rattle.std.proofs.Common.{[], map, refl, sym, ap, subst, ◌∙◌}
use Rattle.spec_core.specs.Lists.{Each}
use Rattle.spec_core.specs.Terms.{term_of}
use Rattle.spec_core.specs.Theories.{theory_of}
use Rattle.spec_core.specs.Sorts.{no_variables}
use Rattle.data_laws.proofs.Settled.{evaluation_gives_values}
use Rattle.data_laws.proofs.Words.{ground_sorted}
use Rattle.value_nodes.specs.Nodes.{tree_at}
use Rattle.rewriter.specs.Machine.{plan}
use Rattle.rewriter.specs.Steps.{task_of, put_by, IsStep}
use Rattle.rewriter.proofs.Arities.{sorted_arities}
use Rattle.rewriter.proofs.Turns.{no_variable}
use Rattle.match_code.proofs.States.{state_begun, at_equal}
use Rattle.match_code.proofs.engine.evaluate.Goals as goal

pub push_instance-requires : goal.push_instance-requires
push_instance-requires c = record {
  room = λ x o. absurd (no_variable (term_of c.args.term.now)
      (ground_sorted (theory_of c.args.algebra.now) (term_of c.args.term.now) c.requires.fits.0 c.requires.fits.1) x o);
}

pub run-requires-clause-stands : goal.run-requires-clause-stands
run-requires-clause-stands c =
    let t = theory_of c.args.algebra.now in
    let term = term_of c.args.term.now in
    let rows = c.args.store.now.nodes in
    let g = ground_sorted t term c.requires.fits.0 c.requires.fits.1 in
    let s = put_by rows c.args.bound.now in
    let none = c.new-runs.ensures in
    let todo = c.push_instance.new.todo in
    let p = c.in_ok-push_instance.ensures.planned t rows ∙ ap (λ steps. plan s term (map (task_of t rows) steps)) none.todo in
    let steps = c.in_ok-push_instance.ensures.steps t rows (sorted_arities t no_variables term c.requires.fits.0 c.requires.fits.1)
    (λ x o. absurd (no_variable term g x o))
    (subst (Each (IsStep t rows)) (sym none.todo) tt) in
    record {
      state = at_equal t term c.args.budget rows [] _ todo todo [] _ 0 _
          (state_begun t c.requires.forms.executable term c.args.budget rows todo s c.requires.store.own c.requires.store.small g p steps)
          none.frames refl none.values none.uses;
      remembers = c.requires.store.remembers;
    }

pub returns-clause-value : goal.returns-clause-value
returns-clause-value c =
    let r = c.in_ok-node.ensures.ended in
    record {
      value = tree_at c.run.new.store.nodes c.in_ok-node.node;
      spelled = c.in_ok-value.ensures.spelled;
      has = evaluation_gives_values (theory_of c.args.algebra.now) c.requires.forms.executable (term_of c.args.term.now)
          (tree_at c.run.new.store.nodes c.in_ok-node.node) r.uses c.requires.fits r.evaluates;
      uses = r.uses;
      evaluates = r.evaluates;
      within = r.enough;
      small = r.small;
    }
