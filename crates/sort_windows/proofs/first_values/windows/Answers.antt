use Rattle.std.proofs.Common.{◌≡◌, ◌++◌, ◌∷◌, [], length, subst, sym, arith, rules}
use Rattle.std.proofs.lemmas.Grind.{common_steps}
use Rattle.spec_core.specs.Theories.{theory_of}
use Rattle.spec_core.specs.Windows.{IsWindow}
use Rattle.sort_windows.specs.Found.{AreBySorts}
use Rattle.sort_windows.proofs.BySorts.{one_more}
use Rattle.sort_windows.proofs.first_values.windows.Goals as goal

pub loop-number-preserved : goal.loop-number-preserved
loop-number-preserved c =
    let theory = theory_of c.args.algebra.now in
    let w = c.in_ok-window.window in
    let before = c.loop-number.all.items in
    let e : c.push.new.self.items ≡ before ++ w ∷ [] = search rules in
    let n : length before ≡ c.loop-number.number = c.loop-number.invariant.0 in (
      grind (arith, common_steps),
      subst (AreBySorts theory c.args.k) (sym e)
          (one_more theory c.args.k before w c.loop-number.invariant.1
          (subst (λ z. IsWindow theory z c.args.k w.values.items w.complete) (sym n) c.in_ok-window.ensures)),
    )
