use Rattle.std.proofs.Common.{map, subst, sym}
use Rattle.spec_core.specs.Numbers.{op_number}
use Rattle.spec_core.specs.Theories.{theory_of}
use Rattle.value_terms.specs.Stacks.{IsRead}
use Rattle.value_terms.proofs.Enough.{enough_of}
use Rattle.value_terms.proofs.Stacked.{never_few, next_from_back, enough_from_back, all_from_back, none_read}
use Rattle.value_terms.proofs.reading.term_with.Goals as goal

pub returns-then-not-branch-clause-none : goal.returns-then-not-branch-clause-none
returns-then-not-branch-clause-none c t h is =
    let enough = enough_from_back (theory_of c.args.algebra.now) c.args.ops.now c.loop-i.i c.loop-i-test.true
    (enough_of (theory_of c.args.algebra.now) t (map op_number c.args.ops.now) h is) in
    c.in_ok-put_operation.ensures.few c.if-not-branch.true
    (never_few (theory_of c.args.algebra.now) c.loop-i.stack.items _ _ c.loop-i.invariant enough)

pub loop-i-preserved : goal.loop-i-preserved
loop-i-preserved c =
    subst (IsRead (theory_of c.args.algebra.now) c.put_operation.new.stack.items)
    (sym (next_from_back c.args.ops.now c.loop-i.i c.loop-i-test.true))
    (c.in_ok-put_operation.ensures.put c.if-not-branch.false _ c.loop-i.invariant)

pub returns-clause-none : goal.returns-clause-none
returns-clause-none c =
    none_read (theory_of c.args.algebra.now) c.only.result c.loop-i.stack.items (map op_number c.args.ops.now)
    (subst (IsRead (theory_of c.args.algebra.now) c.loop-i.stack.items) (all_from_back c.args.ops.now c.loop-i.i c.loop-i-test.false)
    c.loop-i.invariant) c.only.ensures.none
