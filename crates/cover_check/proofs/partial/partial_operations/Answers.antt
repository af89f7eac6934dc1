use Rattle.std.proofs.Common.{ap, arith, length}
use Rattle.std.proofs.lemmas.List.{length-map}
use Rattle.spec_core.specs.Theories.{theory_of, operation_of}
use Rattle.cover_check.proofs.Marking.{all_marked, declared_at}
use Rattle.cover_check.proofs.partial.partial_operations.Goals as goal

pub mark-requires-clause-declared : goal.mark-requires-clause-declared
mark-requires-clause-declared c =
    declared_at c.args.algebra.now.signature.ops.items c.deref-declaration-items.result.now c.loop-i.i c.declaration-item.result
    c.deref-declaration-items.ensures.value c.loop-i-test.true c.declaration-item.is

pub returns : goal.returns
returns c = record {
  partial = all_marked (theory_of c.args.algebra.now) c.loop-i.set c.loop-i.i c.loop-i.invariant.found
      (let l = c.loop-i-test.false in let h = ap length c.deref-declaration-items.ensures.value in
      let m = length-map c.args.algebra.now.signature.ops.items operation_of in omega (arith, l, h, m));
}
