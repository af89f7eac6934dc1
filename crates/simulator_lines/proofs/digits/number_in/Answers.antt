use Rattle.std.proofs.Common.{◌≡◌, ◌+◌, ◌-◌, ◌*◌, ◌∷◌, drop, slice_index_or, subst, arith}
use Rattle.std.specs.Prelude.{min}
use Rattle.std.proofs.lemmas.List.{drop_all, drop_more}
use Rattle.script_text.specs.Numbers.{number_behind}
use Rattle.simulator_lines.specs.Lines.{greatest, number_in}
use Rattle.simulator_lines.proofs.Numbers.{digit_more, at_end}
use Rattle.simulator_lines.proofs.digits.number_in.Goals as goal

pub returns : goal.returns
returns c =
    at_end c.loop-digit.number (drop c.loop-digit.digit-index c.args.digits.now) c.args.digits.now c.loop-digit.invariant.0
    (drop_all c.loop-digit.digit-index c.args.digits.now c.loop-digit-test.false) c.loop-digit.invariant.1

pub loop-digit-preserved : goal.loop-digit-preserved
loop-digit-preserved c =
    let xs = c.args.digits.now in
    let i = c.loop-digit.digit-index in
    let n = c.loop-digit.number in
    let d = slice_index_or xs i 0 in
    let more : drop i xs ≡ d ∷ drop (i + 1) xs = drop_more xs i 0 c.loop-digit-test.true in
    let m = c.saturating_mul.ensures in
    let s = c.saturating_sub.ensures in
    let f = c.from.ensures in
    let a = c.saturating_add-number.ensures in
    let e : c.saturating_add-number.result ≡ min (min (10 * n) greatest + (d - 48)) greatest = grind (arith, m, s, f, a) in (
      digit_more n c.saturating_add-number.result d (drop (i + 1) xs) xs
          (subst (λ z. min (number_behind n z) greatest ≡ number_in xs) more c.loop-digit.invariant.0) e,
      grind (arith, e),
    )
