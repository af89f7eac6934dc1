use Rattle.std.proofs.Common.{sym, length, arith, nat_eq, get_or, eq-eqb}
use Rattle.std.proofs.lemmas.List.Sums.{position_or_len_is}
use Rattle.static_equations.proofs.numbering.place_among.Goals as goal

pub returns-then-number-other : goal.returns-then-number-other
returns-then-number-other c =
    sym (position_or_len_is (nat_eq c.args.number) c.args.numbers.now c.loop-i.i 0 (omega (arith, c.loop-i-test.true)) c.loop-i.invariant (λ h. eq-eqb c.args.number (get_or c.args.numbers.now c.loop-i.i 0) c.if-number-other.true))

pub returns : goal.returns
returns c =
    sym (position_or_len_is (nat_eq c.args.number) c.args.numbers.now (length c.args.numbers.now) 0 (omega arith)
    (λ k h. c.loop-i.invariant k (omega (arith, h, c.loop-i-test.false))) (λ h. absurd (omega (arith, h))))
