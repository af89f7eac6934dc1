use Rattle.type_contents.specs.Items.{small}
use Rattle.type_contents.specs.Uses.{is_called}
use Rattle.std.proofs.Common.{sym, ap, ◌∙◌, arith}
use Rattle.std.proofs.lemmas.List.Sums.{position_or_len_is}
use Rattle.type_contents.proofs.Lists.{none_is}
use Rattle.type_contents.proofs.numbers.number_of.Goals as goal

pub returns-then-is_called-clause-number : goal.returns-then-is_called-clause-number
returns-then-is_called-clause-number c = sym (position_or_len_is (is_called (small c.args.name.now)) c.args.types.now c.loop-i.i c.index-types-i.result (omega (arith, c.loop-i-test.true)) (λ k h. c.loop-i.invariant k c.index-types-i.result h) (λ h. ap (is_called (small c.args.name.now)) (sym c.index-types-i.is) ∙ sym c.is_called.ensures ∙ c.if-is_called.true))

pub returns-clause-number : goal.returns-clause-number
returns-clause-number c = none_is (is_called (small c.args.name.now)) c.args.types.now c.loop-i.i c.loop-i-test.false c.loop-i.invariant
