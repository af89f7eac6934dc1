-- A slice as its first element and the rest, as a pattern gives it.
use Rattle.std.proofs.Common.{◌≤◌, ◌-◌, List, [], ◌∷◌, length, take, drop, sym, subst, arith}
use Rattle.std.proofs.lemmas.List.{take_all}
use Rattle.spec_core.specs.Lists.{Each}

pub each_rest : {A : Type 0} (P : A → Type 0) (xs : List A) → 1 ≤ length xs → Each P xs → Each P (take (length xs - 1) (drop 1 xs))
each_rest P [] h e = absurd (omega arith)
each_rest P (x ∷ xs) h e =
    let n : length xs ≤ length (x ∷ xs) - 1 = omega arith in
    subst (Each P) (sym (take_all (length (x ∷ xs) - 1) xs n)) e.1
