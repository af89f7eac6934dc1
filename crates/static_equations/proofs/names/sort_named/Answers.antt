use Rattle.std.proofs.Common.{sym, ap, ◌∙◌, [], length, arith}
use Rattle.std.proofs.lemmas.List.Sums.{position_or_len_is}
use Rattle.sort_overloads.specs.Listed.{is_same_name}
use Rattle.static_equations.proofs.names.sort_named.Goals as goal

pub returns-then-has_name-clause-number : goal.returns-then-has_name-clause-number
returns-then-has_name-clause-number c =
    sym (position_or_len_is (λ other. is_same_name other c.args.name.now) c.args.sorts.now c.loop-i.i c.index-sorts-i.result (omega (arith, c.loop-i-test.true))
    (λ k h. c.loop-i.invariant k c.index-sorts-i.result h) (λ h. ap (λ z. is_same_name z c.args.name.now) (sym c.index-sorts-i.is) ∙ sym c.has_name.ensures ∙ c.if-has_name.true))

pub returns-clause-number : goal.returns-clause-number
returns-clause-number c =
    sym (position_or_len_is (λ other. is_same_name other c.args.name.now) c.args.sorts.now (length c.args.sorts.now) [] (omega arith)
    (λ k h. c.loop-i.invariant k [] (omega (arith, h, c.loop-i-test.false))) (λ h. absurd (omega (arith, h))))
