-- Accounts of seats: their numbers, and what the rule says of them as the list and the seats change.
use Rattle.std.proofs.Common.{◌≡◌, ◌⊎◌, ℕ, ◌<◌, ◌≤◌, List, [], ◌∷◌, ◌++◌, Option, refl, sym, ap, ◌∙◌, ⊎_elim, inl, inr, arith}
use Rattle.turn_lock.specs.declared.rule.Account.{Account}
use Rattle.turn_lock.specs.Entries.{Continues}
use Rattle.turn_lock.specs.Rule.{HasNumber, AllDiffer, FitsList, AllFit}
use Rattle.turn_lock.proofs.EntryLists.{begins_on, made_by_more}

module _ {E : Type 0} where
  pub has_number_right : (n : ℕ) (xs ys : List (Account E)) → HasNumber n ys → HasNumber n (xs ++ ys)
  has_number_right n [] ys h = h
  has_number_right n (x ∷ xs) ys h = inr (has_number_right n xs ys h)

  pub has_number_left : (n : ℕ) (xs ys : List (Account E)) → HasNumber n xs → HasNumber n (xs ++ ys)
  has_number_left n [] ys h = absurd h
  has_number_left n (x ∷ xs) ys h = ⊎_elim inl (λ t. inr (has_number_left n xs ys t)) h

  pub has_number_cases : (n : ℕ) (xs ys : List (Account E)) → HasNumber n (xs ++ ys) → HasNumber n xs ⊎ HasNumber n ys
  has_number_cases n [] ys h = inr h
  has_number_cases n (x ∷ xs) ys h = ⊎_elim (λ e. inl (inl e)) (λ t. ⊎_elim (λ a. inl (inr a)) inr (has_number_cases n xs ys t)) h

  pub differ_append : (xs ys : List (Account E)) →
      AllDiffer xs → AllDiffer ys → ((n : ℕ) → HasNumber n xs → HasNumber n ys → ⊥) → AllDiffer (xs ++ ys)
  differ_append [] ys a b apart = b
  differ_append (x ∷ xs) ys a b apart = (
    λ h. ⊎_elim a.0 (λ t. apart x.number (inl refl) t) (has_number_cases x.number xs ys h),
    differ_append xs ys a.1 b (λ n p q. apart n (inr p) q),
  )

module _ {E : Type 0} (maker : E → Option ℕ) where
  -- the view that answers for a number
  pub place_of_number : (xs : List E) (made : ℕ) (place : ℕ → ℕ) (j n : ℕ) (accounts : List (Account E)) →
      AllFit maker xs made place j accounts → HasNumber n accounts → place n ≡ j
  place_of_number xs made place j n [] fit h = absurd h
  place_of_number xs made place j n (a ∷ rest) fit h =
      ⊎_elim (λ e. ap place (sym e) ∙ fit.0.here) (λ t. place_of_number xs made place j n rest fit.1 t) h

  -- the accounts of other numbers fit the list that the seat n leaves
  pub all_fit_longer : (xs ys : List E) (made : ℕ) (place : ℕ → ℕ) (j n : ℕ) →
      Continues maker n xs ys → (accounts : List (Account E)) → ¬ HasNumber n accounts → AllFit maker xs made place j accounts →
      AllFit maker ys made place j accounts
  all_fit_longer xs ys made place j n c [] other fit = tt
  all_fit_longer xs ys made place j n c (a ∷ rest) other fit = let p = fit.0 in (
    record {
      prefix = begins_on a.seen xs ys p.prefix (c.0, c.1);
      own = made_by_more maker n a.number xs ys c (λ e. other (inl e)) ∙ p.own;
      below = p.below;
      here = p.here;
    },
    all_fit_longer xs ys made place j n c rest (λ h. other (inr h)) fit.1,
  )

  module _ (xs : List E) (made made' : ℕ) (place place' : ℕ → ℕ) (j j' : ℕ) (more : made ≤ made')
      (goes : (n : ℕ) → n < made → place n ≡ j → place' n ≡ j') where
    -- an account still fits where its number is answered for elsewhere, and more numbers are made
    pub fits_moved : (a : Account E) → FitsList maker xs made place j a → FitsList maker xs made' place' j' a
    fits_moved a p =
        record { prefix = p.prefix; own = p.own; below = (let b = p.below in omega arith); here = goes a.number p.below p.here }

    pub all_fit_moved : (accounts : List (Account E)) → AllFit maker xs made place j accounts → AllFit maker xs made' place' j' accounts
    all_fit_moved [] fit = tt
    all_fit_moved (a ∷ rest) fit = (fits_moved a fit.0, all_fit_moved rest fit.1)

  pub all_fit_append : (xs : List E) (made : ℕ) (place : ℕ → ℕ) (j : ℕ) (left right : List (Account E)) →
      AllFit maker xs made place j left → AllFit maker xs made place j right → AllFit maker xs made place j (left ++ right)
  all_fit_append xs made place j [] right a b = b
  all_fit_append xs made place j (x ∷ rest) right a b = (a.0, all_fit_append xs made place j rest right a.1 b)
