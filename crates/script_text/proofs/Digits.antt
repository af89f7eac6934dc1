-- A number of three digits or more is no client's.
use Rattle.std.proofs.Common.{ℕ, ◌≡◌, ◌≤◌, ◌<◌, ◌+◌, ◌*◌, ◌-◌, ◌==◌, List, [], ◌∷◌, Bool, true, false, not, None, length, sym, arith, eq-eqb}
use Rattle.std.specs.Prelude.{nat_le}
use Rattle.std.specs.Char.{is_ascii_digit}
use Rattle.std.specs.List.{list_all}
use Rattle.std.proofs.lemmas.Bool.{leb-true}
use Rattle.std.proofs.lemmas.Bool.Decides.{nat_tests}
use Rattle.spec_core.proofs.Booleans.{and_first_true, and_second_true}
use Rattle.script_text.specs.Numbers.{is_number, number_behind, client_within, client_of}

not_true : (x : Bool) → not x ≡ true → x ≡ true → ⊥
not_true true h e = cc
not_true false h e = cc

-- further digits make a number no smaller
grows : (n : ℕ) (ds : List ℕ) → n ≤ number_behind n ds
grows n [] = omega arith
grows n (d ∷ ds) = let h : 10 * n + (d - 48) ≤ number_behind (10 * n + (d - 48)) ds = grows (10 * n + (d - 48)) ds in omega (arith, h)

beyond : (n : ℕ) → 64 < n → client_within n ≡ None
beyond n h = grind (arith, nat_tests)

long_number : (a b c : ℕ) (ds : List ℕ) → is_number (a ∷ b ∷ c ∷ ds) ≡ true → client_of (a ∷ b ∷ c ∷ ds) ≡ None
long_number a b c ds h =
    let other : a ≡ 48 → ⊥ = λ e. not_true (a == 48) (and_first_true (not (a == 48)) (list_all is_ascii_digit (a ∷ b ∷ c ∷ ds)) h) (eq-eqb a 48 e) in
    let digit : is_ascii_digit a ≡ true = and_first_true (is_ascii_digit a) (list_all is_ascii_digit (b ∷ c ∷ ds)) (and_second_true (not (a == 48)) (list_all is_ascii_digit (a ∷ b ∷ c ∷ ds)) h) in
    let low : 48 ≤ a = leb-true 48 a (and_first_true (nat_le 48 a) (nat_le a 57) digit) in
    let k : 10 * (10 * (a - 48) + (b - 48)) + (c - 48) ≤ number_behind (10 * (10 * (a - 48) + (b - 48)) + (c - 48)) ds = grows (10 * (10 * (a - 48) + (b - 48)) + (c - 48)) ds in
    beyond (number_behind (10 * (10 * (a - 48) + (b - 48)) + (c - 48)) ds) (omega (arith, k, other, low))

pub many_digits : (ds : List ℕ) → 3 ≤ length ds → is_number ds ≡ true → None ≡ client_of ds
many_digits [] h k = absurd (omega (arith, h))
many_digits (a ∷ []) h k = absurd (omega (arith, h))
many_digits (a ∷ b ∷ []) h k = absurd (omega (arith, h))
many_digits (a ∷ b ∷ c ∷ ds) h k = sym (long_number a b c ds k)
