-- Runs of bytes: where a name or a number ends.
use Rattle.std.proofs.Common.{ℕ, ◌≡◌, ◌<◌, ◌+◌, ◌^◌, ◌%◌, Bool, true, false, List, [], ◌∷◌, ◌++◌}
use Rattle.std.proofs.Common.{refl, ap, ◌∙◌, subst, arith, decimal}
use Rattle.std.specs.Char.{is_ascii_digit}
use Rattle.std.proofs.lemmas.Bool.Decides.{nat_tests}
use Rattle.std.proofs.lemmas.Fmt.{decimal_by_steps, decimal_injective}
use Rattle.std.proofs.lemmas.Bool.{both_ways}
use Rattle.spec_core.specs.Lists.{Each}

-- no such byte comes first
abbrev pub Stops : (ℕ → Bool) → List ℕ → Type 0
Stops p [] = Unit {0}
Stops p (b ∷ bs) = p b ≡ false

abbrev pub IsRun : (ℕ → Bool) → List ℕ → Type 0
IsRun p bs = Each (λ b. p b ≡ true) bs

-- a run of such bytes ends where none comes
pub one_run : (p : ℕ → Bool) (x y r s : List ℕ) → IsRun p x → IsRun p y → Stops p r → Stops p s → x ++ r ≡ y ++ s → (x ≡ y) × (r ≡ s)
one_run p [] [] r s a b c d h = (refl, h)
one_run p [] (b ∷ y) [] s k l c d h = absurd (cc)
one_run p [] (b ∷ y) (e ∷ r) s k l c d h = absurd (both_ways (p b) (subst (λ z. p z ≡ false) (let first : e ≡ b = cc in first) c) l.0)
one_run p (b ∷ x) [] r [] k l c d h = absurd (cc)
one_run p (b ∷ x) [] r (e ∷ s) k l c d h = absurd (both_ways (p b) (subst (λ z. p z ≡ false) (let first : e ≡ b = cc in first) d) k.0)
one_run p (b ∷ x) (e ∷ y) r s k l c d h =
    let first : b ≡ e = cc in
    let rest : x ++ r ≡ y ++ s = cc in
    let q = one_run p x y r s k.1 l.1 c d rest in
    (ap (λ z. z ∷ x) first ∙ ap (λ z. e ∷ z) q.0, q.1)

each_push : (p : ℕ → Bool) (xs : List ℕ) (b : ℕ) → IsRun p xs → p b ≡ true → IsRun p (xs ++ b ∷ [])
each_push p [] b k h = (h, tt)
each_push p (x ∷ xs) b k h = (k.0, each_push p xs b k.1 h)

is_digit : (n : ℕ) → n < 10 → is_ascii_digit (48 + n) ≡ true
is_digit n h = grind (arith, nat_tests)

pub decimal_run : (n : ℕ) → n < 2 ^ 64 → IsRun is_ascii_digit (decimal n)
decimal_run n small =
    decimal_by_steps (λ m ds. IsRun is_ascii_digit ds) (λ m h. (is_digit m h, tt))
    (λ m ds h k. each_push is_ascii_digit ds (48 + m % 10) k (is_digit (m % 10) (omega arith))) n small

-- a number ends where no digit comes
pub one_number : (m n : ℕ) (r s : List ℕ) → m < 2 ^ 64 → n < 2 ^ 64 → Stops is_ascii_digit r → Stops is_ascii_digit s →
    decimal m ++ r ≡ decimal n ++ s → (m ≡ n) × (r ≡ s)
one_number m n r s a b c d h =
    let q = one_run is_ascii_digit (decimal m) (decimal n) r s (decimal_run m a) (decimal_run n b) c d h in
    (decimal_injective m n a b q.0, q.1)
