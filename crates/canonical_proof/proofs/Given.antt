-- What a substitution gives the variables of a term, bound to them one by one.
use Rattle.std.proofs.Common.{ℕ, ◌≡◌, ◌⊎◌, List, [], ◌∷◌, ◌++◌, map, refl, sym, ap, subst, ◌∙◌, inl, inr, Bool, true, false, ◌||◌, nat_eq}
use Rattle.std.proofs.Common.{if◌then◌else◌}
use Rattle.std.proofs.lemmas.Bool.{eq-eqb, eqb-true}
use Rattle.std.proofs.lemmas.List.{map-append}
use Rattle.std.specs.List.{list_any, slice_get}
use Rattle.spec_core.specs.Lists.{Each}
use Rattle.spec_core.specs.Sorts.{OnSome, HasSort, no_variables}
use Rattle.spec_core.specs.Terms.{TermTree, TermTrees, variable, apply, no_terms, and_term, Occurs, OccursInAny, preorder}
use Rattle.spec_core.specs.Theories.{Theory}
use Rattle.spec_core.proofs.Lists.{each_push}
use Rattle.equal_proof.specs.Certificates.{with_variable, with_variables, with_all_variables, variables_of, bound_by, FitVariables}
use Rattle.canonical_proof.specs.Canonical.{given_by}

module _ (s : ℕ → TermTree) where
  -- what is bound to x is what s gives it
  abbrev IsBound : List ℕ → ℕ → Type 0
  IsBound xs x = bound_by xs (map s xs) x ≡ s x

  still_bound : (xs : List ℕ) (x y : ℕ) → IsBound xs x → IsBound (xs ++ y ∷ []) x
  still_bound [] x y h = by (nat_eq y x) refl
    where
      by : (b : Bool) → nat_eq y x ≡ b → (if b then s y else variable x) ≡ s x
      by true e = ap s (eqb-true y x e)
      by false e = h
  still_bound (z ∷ xs) x y h = by (still_bound xs x y) (nat_eq z x) h
    where
      by : (IsBound xs x → IsBound (xs ++ y ∷ []) x) → (b : Bool) → (if b then s z else bound_by xs (map s xs) x) ≡ s x →
          (if b then s z else bound_by (xs ++ y ∷ []) (map s (xs ++ y ∷ [])) x) ≡ s x
      by later true k = k
      by later false k = later k

  last_bound : (xs : List ℕ) (x : ℕ) → IsBound (xs ++ x ∷ []) x
  last_bound [] x = ap (λ b. if b then s x else variable x) (eq-eqb x x refl)
  last_bound (z ∷ xs) x = by (last_bound xs x) (nat_eq z x) refl
    where
      by : IsBound (xs ++ x ∷ []) x → (b : Bool) → nat_eq z x ≡ b →
          (if b then s z else bound_by (xs ++ x ∷ []) (map s (xs ++ x ∷ [])) x) ≡ s x
      by later true e = ap s (eqb-true z x e)
      by later false e = later

  found_bound : (xs : List ℕ) (x : ℕ) → list_any (nat_eq x) xs ≡ true → IsBound xs x
  found_bound [] x h = absurd (cc)
  found_bound (z ∷ xs) x h = by (found_bound xs x) (nat_eq z x) refl (later (nat_eq x z) refl h)
    where
      later : (b : Bool) → nat_eq x z ≡ b → (b || list_any (nat_eq x) xs) ≡ true → (x ≡ z) ⊎ (list_any (nat_eq x) xs ≡ true)
      later true e k = inl (eqb-true x z e)
      later false e k = inr k

      by : (list_any (nat_eq x) xs ≡ true → IsBound xs x) → (b : Bool) → nat_eq z x ≡ b →
          (x ≡ z) ⊎ (list_any (nat_eq x) xs ≡ true) → (if b then s z else bound_by xs (map s xs) x) ≡ s x
      by rest true e k = ap s (eqb-true z x e)
      by rest false e (inl k) = absurd (let n : true ≡ false = sym (eq-eqb z x (sym k)) ∙ e in let z : ⊥ = cc in z)
      by rest false e (inr k) = rest k

  with_one : (xs : List ℕ) (y x : ℕ) → IsBound xs x → IsBound (with_variable xs y) x
  with_one xs y x h = by (list_any (nat_eq y) xs)
    where
      by : (b : Bool) → IsBound (if b then xs else xs ++ y ∷ []) x
      by true = h
      by false = still_bound xs x y h

  one_bound : (xs : List ℕ) (x : ℕ) → IsBound (with_variable xs x) x
  one_bound xs x = by (list_any (nat_eq x) xs) refl
    where
      by : (b : Bool) → list_any (nat_eq x) xs ≡ b → IsBound (if b then xs else xs ++ x ∷ []) x
      by true e = found_bound xs x e
      by false e = last_bound xs x

  mutual
    with_term : (xs : List ℕ) (t : TermTree) (x : ℕ) → IsBound xs x → IsBound (with_variables xs t) x
    with_term xs (variable y) x h = with_one xs y x h
    with_term xs (apply f ts) x h = with_terms xs ts x h

    with_terms : (xs : List ℕ) (ts : TermTrees) (x : ℕ) → IsBound xs x → IsBound (with_all_variables xs ts) x
    with_terms xs no_terms x h = h
    with_terms xs (and_term t ts) x h = with_terms (with_variables xs t) ts x (with_term xs t x h)

  mutual
    occurring : (xs : List ℕ) (t : TermTree) (x : ℕ) → Occurs x t → IsBound (with_variables xs t) x
    occurring xs (variable y) x o = subst (λ z. IsBound (with_variable xs z) x) o (one_bound xs x)
    occurring xs (apply f ts) x o = occurring_in xs ts x o

    occurring_in : (xs : List ℕ) (ts : TermTrees) (x : ℕ) → OccursInAny x ts → IsBound (with_all_variables xs ts) x
    occurring_in xs no_terms x o = absurd o
    occurring_in xs (and_term t ts) x (inl o) = with_terms (with_variables xs t) ts x (occurring xs t x o)
    occurring_in xs (and_term t ts) x (inr o) = occurring_in (with_variables xs t) ts x o

  pub bound_is_given : (t : TermTree) (x : ℕ) → Occurs x t → bound_by (variables_of t) (map s (variables_of t)) x ≡ s x
  bound_is_given t x o = occurring [] t x o

-- what holds of a term's variables holds of each in their list
module _ (P : ℕ → Type 0) where
  each_with : (xs : List ℕ) (y : ℕ) → Each P xs → P y → Each P (with_variable xs y)
  each_with xs y h p = by (list_any (nat_eq y) xs)
    where
      by : (b : Bool) → Each P (if b then xs else xs ++ y ∷ [])
      by true = h
      by false = each_push P xs y h p

  mutual
    pub each_variable : (xs : List ℕ) (t : TermTree) → Each P xs → ((x : ℕ) → Occurs x t → P x) → Each P (with_variables xs t)
    each_variable xs (variable y) h p = each_with xs y h (p y refl)
    each_variable xs (apply f ts) h p = each_of_all xs ts h p

    each_of_all : (xs : List ℕ) (ts : TermTrees) → Each P xs → ((x : ℕ) → OccursInAny x ts → P x) → Each P (with_all_variables xs ts)
    each_of_all xs no_terms h p = h
    each_of_all xs (and_term t ts) h p =
        each_of_all (with_variables xs t) ts (each_variable xs t h (λ x o. p x (inl o))) (λ x o. p x (inr o))

module _ (theory : Theory) (sorts : List ℕ) (s : ℕ → TermTree) where
  -- what s gives the variable has its sort
  abbrev HasItsSort : ℕ → Type 0
  HasItsSort x = OnSome (slice_get sorts x) (λ (sort : ℕ). HasSort theory no_variables (s x) sort)

  all_fit : (xs : List ℕ) → Each HasItsSort xs → FitVariables theory sorts xs (map s xs)
  all_fit [] h = tt
  all_fit (x ∷ xs) h = (h.0, all_fit xs h.1)

  pub given_fit : (t : TermTree) → ((x : ℕ) → Occurs x t → HasItsSort x) → FitVariables theory sorts (variables_of t) (map s (variables_of t))
  given_fit t h = all_fit (variables_of t) (each_variable HasItsSort [] t tt h)

-- substitutions that agree on the variables of a term give them the same
module _ (s z : ℕ → TermTree) where
  given_one : (xs : List ℕ) (x : ℕ) → given_by s xs ≡ given_by z xs → s x ≡ z x →
      given_by s (with_variable xs x) ≡ given_by z (with_variable xs x)
  given_one xs x e h = by (list_any (nat_eq x) xs)
    where
      by : (b : Bool) → given_by s (if b then xs else xs ++ x ∷ []) ≡ given_by z (if b then xs else xs ++ x ∷ [])
      by true = e
      by false = map-append (λ y. preorder (s y)) xs (x ∷ []) ∙ ap (λ vs. vs ++ preorder (s x) ∷ []) e
          ∙ ap (λ t. given_by z xs ++ preorder t ∷ []) h ∙ sym (map-append (λ y. preorder (z y)) xs (x ∷ []))

  mutual
    given_term : (xs : List ℕ) (t : TermTree) → given_by s xs ≡ given_by z xs → ((x : ℕ) → Occurs x t → s x ≡ z x) →
        given_by s (with_variables xs t) ≡ given_by z (with_variables xs t)
    given_term xs (variable x) e h = given_one xs x e (h x refl)
    given_term xs (apply f ts) e h = given_terms xs ts e h

    given_terms : (xs : List ℕ) (ts : TermTrees) → given_by s xs ≡ given_by z xs → ((x : ℕ) → OccursInAny x ts → s x ≡ z x) →
        given_by s (with_all_variables xs ts) ≡ given_by z (with_all_variables xs ts)
    given_terms xs no_terms e h = e
    given_terms xs (and_term t ts) e h =
        given_terms (with_variables xs t) ts (given_term xs t e (λ x o. h x (inl o))) (λ x o. h x (inr o))

  pub same_given : (t : TermTree) → ((x : ℕ) → Occurs x t → s x ≡ z x) → given_by s (variables_of t) ≡ given_by z (variables_of t)
  same_given t h = given_term [] t refl h
