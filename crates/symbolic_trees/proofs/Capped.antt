-- Numbers up to a bound, above which none are told apart.
use Rattle.std.proofs.Common.{ℕ, zero, suc, ◌≡◌, ◌≤◌, ◌<◌, ◌+◌, ◌*◌, ◌/◌, ◌%◌, ◌∙◌, sym, ap, arith, inl, inr, ◌⊎◌, min, List, flat_map}
use Rattle.std.proofs.Common.{length, None}
use Rattle.std.specs.Prelude.{option_and_then}
use Rattle.std.specs.List.{slice_get}
use Rattle.std.proofs.lemmas.Bool.{cases_lt}
use Rattle.std.proofs.lemmas.Option.{slice_get_past}
use Rattle.std.proofs.Math.Nat.{div-eq_of_lt, mod-eq_of_lt, mul_comm}
use Rattle.spec_core.specs.Lists.{Each}
use Rattle.symbolic_trees.proofs.Pieces.{length_pieces, get_piece}

module _ (m : ℕ) where
  -- a product of a number that is known up to the bound is known up to it
  pub capped_times : (a b d : ℕ) → b ≡ min d m → min (a * b) m ≡ min (a * d) m
  capped_times a b d e = by_order (cases_lt m d)
    where
      above : (a : ℕ) → m < d → min (a * m) m ≡ min (a * d) m
      above zero l = grind arith
      above (suc a) l =
          let p : suc a * m ≡ m + a * m = grind arith in
          let q : suc a * d ≡ d + a * d = grind arith in
          omega arith

      by_order : (m < d) ⊎ (d ≤ m) → min (a * b) m ≡ min (a * d) m
      by_order (inl l) = let f : b ≡ m = omega arith in ap (λ z. min (a * z) m) f ∙ above a l
      by_order (inr l) = let f : b ≡ d = omega arith in ap (λ z. min (a * z) m) f

  pub capped_both : (a b c d : ℕ) → a ≡ min c m → b ≡ min d m → min (a * b) m ≡ min (c * d) m
  capped_both a b c d e f =
      capped_times a b d f
      ∙ ap (λ z. min z m) (mul_comm a d)
      ∙ capped_times d a c e
      ∙ ap (λ z. min z m) (mul_comm d c)

  -- a number below the bound is divided by one that is known up to it
  pub capped_div : (n k c : ℕ) → k ≡ min c m → n < m → n / k ≡ n / c
  capped_div n k c e l = by_order (cases_lt m c)
    where
      by_order : (m < c) ⊎ (c ≤ m) → n / k ≡ n / c
      by_order (inl h) =
          let f : k ≡ m = omega arith in
          let g : n < c = omega arith in
          ap (λ z. n / z) f ∙ div-eq_of_lt l ∙ sym (div-eq_of_lt g)
      by_order (inr h) = let f : k ≡ c = omega arith in ap (λ z. n / z) f

  pub capped_mod : (n k c : ℕ) → k ≡ min c m → n < m → n % k ≡ n % c
  capped_mod n k c e l = by_order (cases_lt m c)
    where
      by_order : (m < c) ⊎ (c ≤ m) → n % k ≡ n % c
      by_order (inl h) =
          let f : k ≡ m = omega arith in
          let g : n < c = omega arith in
          ap (λ z. n % z) f ∙ mod-eq_of_lt l ∙ sym (mod-eq_of_lt g)
      by_order (inr h) = let f : k ≡ c = omega arith in ap (λ z. n % z) f

  module _ {A B : Type 0} (f : A → List B) (c k : ℕ) (xs : List A) (n : ℕ) where
    -- an element of pieces whose length is known up to the bound
    pub get_capped : k ≡ min c m → n < m → 0 < k → Each (λ x. length (f x) ≡ c) xs →
        slice_get (flat_map f xs) n ≡ option_and_then (λ x. slice_get (f x) (n % k)) (slice_get xs (n / k))
    get_capped e l p h =
        get_piece f c xs n (omega arith) h
        ∙ sym (ap (λ z. option_and_then (λ x. slice_get (f x) (n % c)) (slice_get xs z)) (capped_div n k c e l))
        ∙ sym (ap (λ z. option_and_then (λ x. slice_get (f x) z) (slice_get xs (n / k))) (capped_mod n k c e l))

    -- empty pieces
    pub get_empty : k ≡ min c m → n < m → k ≡ 0 → Each (λ x. length (f x) ≡ c) xs → slice_get (flat_map f xs) n ≡ None
    get_empty e l p h =
        let z : c ≡ 0 = omega arith in
        let q : length (flat_map f xs) ≡ length xs * c = length_pieces f c xs h in
        let r : length xs * c ≡ 0 = ap (λ v. length xs * v) z ∙ times_none (length xs) in
        slice_get_past (flat_map f xs) n (omega arith)
      where
        times_none : (v : ℕ) → v * 0 ≡ 0
        times_none v = grind arith
