use Rattle.std.proofs.Common.{rules, ◌≡◌, ◌-◌, ◌+◌, ◌∷◌, ◌∙◌, arith, ap, sym, subst, length}
use Rattle.spec_core.specs.Theories.{theory_of}
use Rattle.value_table.specs.Spelled.{SpellsSome}
use Rattle.value_table.proofs.Spelled.{left_spelled, one_row_read, rest_at}
use Rattle.value_table.proofs.Tables.{longer_on}
use Rattle.value_table.proofs.reading.read.Goals as goal

pub returns-then-not-branch-clause-none : goal.returns-then-not-branch-clause-none
returns-then-not-branch-clause-none c = λ one.
    let ops = c.as_slice-ops.result.now in
    let op = c.from_end-op.result in
    let e = rest_at ops c.args.value.now c.loop-done.done op c.as_slice-ops.ensures.spelled c.loop-done-test.true c.from_end-op.ensures in
    c.in_ok-read_op.ensures.none c.if-not-branch.true
    (subst (SpellsSome (theory_of c.args.algebra.now)) (e ∙ ap (λ fs. op.0 ∷ fs) (sym c.loop-done.invariant.spelled))
    (left_spelled (theory_of c.args.algebra.now) c.args.value.now (length ops - (c.loop-done.done + 1)) one))

pub loop-done-preserved : goal.loop-done-preserved
loop-done-preserved c =
    let ops = c.as_slice-ops.result.now in
    let op = c.from_end-op.result in
    let e = rest_at ops c.args.value.now c.loop-done.done op c.as_slice-ops.ensures.spelled c.loop-done-test.true c.from_end-op.ensures in
    record {
      longer =
          longer_on c.args.table.now c.loop-done.table c.read_op.new.table c.loop-done.invariant.longer c.in_ok-read_op.ensures.longer;
      fit = c.in_ok-read_op.ensures.fit;
      there = c.in_ok-read_op.ensures.there c.if-not-branch.false;
      spelled = c.in_ok-read_op.ensures.spelled c.if-not-branch.false ∙ ap (λ fs. op.0 ∷ fs) c.loop-done.invariant.spelled ∙ sym e;
    }

pub returns-clause-none : goal.returns-clause-none
returns-clause-none c = λ one.
    let k : c.len.result ≡ length c.loop-done.rows.items = search rules in
    let none : length c.as_slice-ops.result.now - c.loop-done.done ≡ 0 = omega (arith, c.loop-done-test.false) in
    c.if-len-eq1.false
    (k ∙ one_row_read (theory_of c.args.algebra.now) c.loop-done.table c.args.value.now c.loop-done.rows.items
    (length c.as_slice-ops.result.now - c.loop-done.done) c.loop-done.invariant.fit c.loop-done.invariant.there
    c.loop-done.invariant.spelled none one)
