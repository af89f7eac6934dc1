-- Wanted trees, one after another.
use Rattle.std.proofs.Common.{ℕ, zero, suc, ◌≡◌, ◌+◌, ◌≤◌, ◌∙◌, List, [], ◌∷◌, drop, filter, length, sym, ap, arith, Bool, true}
use Rattle.std.proofs.Common.{false, cond}
use Rattle.std.proofs.Common.{Some, None}
use Rattle.std.specs.List.{slice_get}
use Rattle.std.proofs.lemmas.List.{drop_all}
use Rattle.rule_model.specs.Derivations.{Derivation}
use Rattle.candidate_search.specs.Searches.{wanted_from}

-- where the n-th element stands
drop_at : {A : Type 0} (xs : List A) (n : ℕ) (x : A) → Some x ≡ slice_get xs n → drop n xs ≡ x ∷ drop (suc n) xs
drop_at [] n x e = cc
drop_at (y ∷ ys) zero x e = let q : y ≡ x = cc in ap (λ z. z ∷ ys) q
drop_at (y ∷ ys) (suc n) x e = drop_at ys n x e

none_behind : {A : Type 0} (xs : List A) (n : ℕ) → None ≡ slice_get xs n → length xs ≤ n
none_behind [] n e = omega arith
none_behind (x ∷ xs) zero e = cc
none_behind (x ∷ xs) (suc n) e = let h : length xs ≤ n = none_behind xs n e in omega arith

next : (n : ℕ) → suc n ≡ n + 1
next n = omega arith

module _ (wanted : Derivation → Bool) (trees : List Derivation) (n : ℕ) where
  pub none_from : length trees ≤ n → wanted_from wanted trees n ≡ []
  none_from h = ap (filter wanted) (drop_all n trees h)

  pub none_at : None ≡ slice_get trees n → wanted_from wanted trees n ≡ wanted_from wanted trees (n + 1)
  none_at e =
      let h : length trees ≤ n = none_behind trees n e in
      let i : length trees ≤ n + 1 = omega arith in
      ap (filter wanted) (drop_all n trees h ∙ sym (drop_all (n + 1) trees i))

  at_tree : (d : Derivation) (b : Bool) → Some d ≡ slice_get trees n → b ≡ wanted d →
      wanted_from wanted trees n ≡ cond b (d ∷ wanted_from wanted trees (n + 1)) (wanted_from wanted trees (n + 1))
  at_tree d b e f =
      ap (filter wanted) (drop_at trees n d e)
      ∙ ap (λ z. cond z (d ∷ filter wanted (drop (suc n) trees)) (filter wanted (drop (suc n) trees))) (sym f)
      ∙ ap (λ k. cond b (d ∷ wanted_from wanted trees k) (wanted_from wanted trees k)) (next n)

  pub found_at : (d : Derivation) → Some d ≡ slice_get trees n → true ≡ wanted d →
      wanted_from wanted trees n ≡ d ∷ wanted_from wanted trees (n + 1)
  found_at d e f = at_tree d true e f

  pub passed_at : (d : Derivation) → Some d ≡ slice_get trees n → false ≡ wanted d →
      wanted_from wanted trees n ≡ wanted_from wanted trees (n + 1)
  passed_at d e f = at_tree d false e f
