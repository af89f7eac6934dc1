use Rattle.std.proofs.Common.{rules, ◌≡◌, ◌≤◌, ◌-◌, [], arith, ap, sym, subst, length, take}
use Rattle.spec_core.specs.Theories.{theory_of}
use Rattle.std.proofs.lemmas.Result.{IfOk-weaker, IfErr-weaker}
use Rattle.spec_core.specs.Lists.{Each}
use Rattle.value_table.specs.Tables.{AreFit}
use Rattle.equal_proof.specs.Certificates.{Runs}
use Rattle.equal_proof.specs.Outcomes.{IsNoneLeft, IsOneLeft, NamesStep}
use Rattle.equal_proof.specs.Pairs.{stack_of, IsPair}
use Rattle.equal_proof.proofs.Outcomes.{fails_at_end, fails_in, next_number, proves_spelled, steps_at}
use Rattle.equal_proof.proofs.Running.{run_more}
use Rattle.equal_proof.proofs.check.check.Goals as goal

pub loop-number-init : goal.loop-number-init
loop-number-init c =
    record {
      fit = subst (AreFit (theory_of c.args.algebra.now)) (sym c.new-table.ensures.none) (λ i h. absurd (omega (arith, h)));
      there = subst (Each (IsPair c.new-table.result)) (sym c.new-stack.ensures.items) tt;
      runs = ap (stack_of c.new-table.result) c.new-stack.ensures.items;
    }

pub returns-then-not-branch-clause-not_a_proof : goal.returns-then-not-branch-clause-not_a_proof
returns-then-not-branch-clause-not_a_proof c =
    let at = steps_at c.args.proof.now.steps.items c.deref-step-items.result.now c.loop-number.number c.step-item.result
    c.deref-step-items.ensures.value c.loop-number-test.true c.step-item.is in
    fails_in (theory_of c.args.algebra.now) c.args.proof.now.steps.items c.loop-number.number c.step-item.result
    (stack_of c.loop-number.table c.loop-number.stack.items) at c.loop-number.invariant.runs
    (c.in_ok-take_step.ensures.fails c.if-not-branch.true)

pub loop-number-preserved : goal.loop-number-preserved
loop-number-preserved c =
    let at = steps_at c.args.proof.now.steps.items c.deref-step-items.result.now c.loop-number.number c.step-item.result
    c.deref-step-items.ensures.value c.loop-number-test.true c.step-item.is in
    record {
      fit = c.in_ok-take_step.ensures.grown.fit;
      there = c.in_ok-take_step.ensures.there c.if-not-branch.false;
      runs = subst (λ n. Runs (theory_of c.args.algebra.now) (take n c.args.proof.now.steps.items) []
          (stack_of c.take_step.new.table c.take_step.new.stack.items))
          (next_number c.loop-number.number)
          (run_more (theory_of c.args.algebra.now) c.args.proof.now.steps.items c.loop-number.number c.step-item.result []
          (stack_of c.loop-number.table c.loop-number.stack.items) (stack_of c.take_step.new.table c.take_step.new.stack.items) at
          c.loop-number.invariant.runs (c.in_ok-take_step.ensures.applies c.if-not-branch.false));
    }

pub only_equation-requires : goal.only_equation-requires
only_equation-requires c =
    record { there = subst (Each (IsPair c.loop-number.table)) (sym c.deref.ensures.value) c.loop-number.invariant.there }

pub returns-clause-proves : goal.returns-clause-proves
returns-clause-proves c =
    let e : length c.args.proof.now.steps.items ≤ c.loop-number.number =
    subst (λ ss. length ss ≤ c.loop-number.number) c.deref-step-items.ensures.value c.loop-number-test.false in
    IfOk-weaker c.only_equation.result _ _
    (λ sides h. proves_spelled (theory_of c.args.algebra.now) c.requires.executable c.args.proof.now.steps.items c.loop-number.number
    (stack_of c.loop-number.table c.loop-number.stack.items) sides.0 sides.1 e c.loop-number.invariant.runs
    (subst (λ ps. IsOneLeft (stack_of c.loop-number.table ps) sides.0 sides.1) c.deref.ensures.value h)) c.only_equation.ensures.one

pub returns-clause-not_a_proof : goal.returns-clause-not_a_proof
returns-clause-not_a_proof c =
    let e : length c.args.proof.now.steps.items ≤ c.loop-number.number =
    subst (λ ss. length ss ≤ c.loop-number.number) c.deref-step-items.ensures.value c.loop-number-test.false in
    let n : c.len.result ≡ length c.args.proof.now.steps.items = search rules in
    IfErr-weaker c.only_equation.result _ _
    (λ fault h. fails_at_end (theory_of c.args.algebra.now) c.args.proof.now.steps.items c.loop-number.number
    (stack_of c.loop-number.table c.loop-number.stack.items) fault e c.loop-number.invariant.runs
    (subst (λ ps. NamesStep fault (λ step. (step ≡ length c.args.proof.now.steps.items) × IsNoneLeft (stack_of c.loop-number.table ps)))
    c.deref.ensures.value
    (subst (λ k. NamesStep fault (λ step. (step ≡ k) × IsNoneLeft (stack_of c.loop-number.table c.deref.result.now))) n h)))
    c.only_equation.ensures.none
