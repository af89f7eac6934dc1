-- Rows of seats that grow and shrink at their end.
use Rattle.std.proofs.Common.{◌≡◌, ◌⊎◌, ℕ, zero, suc, ◌+◌, ◌-◌, ◌<◌, ◌≤◌, List, [], ◌∷◌, ◌++◌, length, map, ap, ◌∙◌, subst, inl, inr}
use Rattle.std.proofs.Common.{⊎_elim, arith}
use Rattle.std.specs.Prelude.{slice_index_or, Contains}
use Rattle.std.proofs.lemmas.List.{length-map, get_or-map, get_or_default}
use Rattle.std.proofs.lemmas.List.FromFn.{length-range_with_len, get_or-range_with_len}
use Rattle.std.specs.List.{AllByRecursion, range_with_len}
use Rattle.turn_lock.specs.declared.rule.Account.{Account}
use Rattle.turn_lock.specs.Seats.{SeatModel}
use Rattle.turn_lock.specs.Rule.{HasNumber}
use Rattle.turn_lock.specs.Closing.{account_of, HasAccount, AllNoted}

module _ {A : Type 0} where
  -- one more number at the end
  pub map_range_longer : (f : ℕ → A) (from count : ℕ) →
      map f (range_with_len from count) ++ f (from + count) ∷ [] ≡ map f (range_with_len from (suc count))
  map_range_longer f from zero = ap (λ n. f n ∷ []) (omega arith)
  map_range_longer f from (suc count) =
      ap (λ l. f from ∷ l)
      (ap (λ n. map f (range_with_len (from + 1) count) ++ f n ∷ []) (omega arith) ∙ map_range_longer f (from + 1) count)

  pub map_range_next : (f : ℕ → A) (next : ℕ) →
      1 ≤ next → map f (range_with_len 1 (next - 1)) ++ f next ∷ [] ≡ map f (range_with_len 1 (next + 1 - 1))
  map_range_next f zero some = absurd (omega arith)
  map_range_next f (suc k) some =
      let less : suc k - 1 ≡ k = omega arith in let plus : suc k ≡ 1 + k = omega arith in let more : suc k ≡ suc k + 1 - 1 = omega arith in
      ap (λ n. map f (range_with_len 1 n) ++ f (suc k) ∷ []) less
      ∙ (ap (λ n. map f (range_with_len 1 k) ++ f n ∷ []) plus ∙ (map_range_longer f 1 k ∙ ap (λ n. map f (range_with_len 1 n)) more))

  -- the first number, and the others
  pub map_range_first : (f : ℕ → A) (from count : ℕ) →
      1 ≤ count → f from ∷ map f (range_with_len (from + 1) (count - 1)) ≡ map f (range_with_len from count)
  map_range_first f from zero some = absurd (omega arith)
  map_range_first f from (suc count) some = ap (λ n. f from ∷ map f (range_with_len (from + 1) n)) (omega arith)

  pub all_but_last : (P : A → Type 0) (xs : List A) (x : A) → AllByRecursion P (xs ++ x ∷ []) → AllByRecursion P xs × P x
  all_but_last P [] x h = (tt, h.0)
  all_but_last P (y ∷ ys) x h = let t = all_but_last P ys x h.1 in ((h.0, t.0), t.1)

  pub all_and_last : (P : A → Type 0) (xs : List A) (x : A) → AllByRecursion P xs → P x → AllByRecursion P (xs ++ x ∷ [])
  all_and_last P [] x h p = (p, tt)
  all_and_last P (y ∷ ys) x h p = (h.0, all_and_last P ys x h.1 p)

-- each number below the count
pub range_contains : (count n : ℕ) → n < count → Contains (range_with_len 0 count) n
range_contains count n below =
    (n, (let size = length-range_with_len 0 count in omega arith), get_or-range_with_len 0 count n n below ∙ omega arith)

module _ {E : Type 0} where
  -- where the seat at each place has the place as its number, the row has each number
  pub row_contains : (seats : List (SeatModel E)) →
      ((i : ℕ) (s : SeatModel E) → i < length seats → s ≡ slice_index_or seats i s → s.number ≡ i) → (n : ℕ) → n < length seats →
      Contains (map (λ (s : SeatModel E). s.number) seats) n
  row_contains [] numbered n below = absurd (omega arith)
  row_contains (s ∷ ss) numbered n below = let number : SeatModel E → ℕ = λ s. s.number in let x = slice_index_or (s ∷ ss) n s in (
    n,
    (let size = length-map (s ∷ ss) number in omega arith),
    get_or-map number (s ∷ ss) n s n below
        ∙ numbered n x below (get_or_default (s ∷ ss) n s x below),
  )

  has_account_right : (a : Account E) (xs ys : List (Account E)) → HasAccount ys a → HasAccount (xs ++ ys) a
  has_account_right a [] ys h = h
  has_account_right a (x ∷ xs) ys h = inr (has_account_right a xs ys h)

  pub all_noted_more : (xs ys : List (Account E)) (seats : List (SeatModel E)) → AllNoted ys seats → AllNoted (xs ++ ys) seats
  all_noted_more xs ys [] h = tt
  all_noted_more xs ys (s ∷ ss) h = (has_account_right (account_of s) xs ys h.0, all_noted_more xs ys ss h.1)

  has_its_number : (a : Account E) (xs : List (Account E)) → HasAccount xs a → HasNumber a.number xs
  has_its_number a [] h = absurd h
  has_its_number a (x ∷ xs) h = ⊎_elim (λ e. inl (ap (λ (y : Account E). y.number) e)) (λ t. inr (has_its_number a xs t)) h

  -- where a row of seats has a number, so have the accounts in which all of them are noted, or the last one has it
  pub number_is_noted : (n : ℕ) (accounts : List (Account E)) (seats : List (SeatModel E)) (last : SeatModel E) →
      AllNoted accounts seats → Contains (map (λ (s : SeatModel E). s.number) (seats ++ last ∷ [])) n →
      (last.number ≡ n) ⊎ HasNumber n accounts
  number_is_noted n accounts [] last noted (zero, below, is) = inl is
  number_is_noted n accounts [] last noted (suc k, below, is) = absurd (omega arith)
  number_is_noted n accounts (s ∷ ss) last noted (zero, below, is) =
      inr (subst (λ k. HasNumber k accounts) is (has_its_number (account_of s) accounts noted.0))
  number_is_noted n accounts (s ∷ ss) last noted (suc k, below, is) = number_is_noted n accounts ss last noted.1 (k, omega arith, is)
