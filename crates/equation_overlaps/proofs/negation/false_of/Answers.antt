use Rattle.std.proofs.Common.{length, ◌<◌, ap, arith}
use Rattle.std.proofs.lemmas.List.{length-map}
use Rattle.spec_core.specs.Theories.{theory_of, operation_of}
use Rattle.equation_overlaps.proofs.Giving.{is_within}
use Rattle.equation_overlaps.proofs.negation.false_of.Goals as goal

pub returns-clause-none : goal.returns-clause-none
returns-clause-none c = λ no n.
    let w : no < length (theory_of c.args.algebra.now).operations = is_within (theory_of c.args.algebra.now).operations no _ n.false_constant.declared in
    c.loop-i.invariant no (omega (arith, w, length-map c.args.algebra.now.signature.ops.items operation_of, ap length c.deref-items.ensures.value, c.loop-i-test.false)) n
