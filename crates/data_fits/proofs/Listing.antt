-- Lists of terms with their sorts, one by one.
use Rattle.std.proofs.Common.{ℕ, zero, suc, ◌≡◌, ◌<◌, ◌+◌, List, [], ◌∷◌, Option, Some, None, length, map, option_map, take, get_or, add-one, refl, sym, ap, subst, ◌∙◌, arith}
use Rattle.std.specs.List.{slice_get}
use Rattle.spec_core.specs.declared.term.Term.{Term}
use Rattle.spec_core.specs.declared.items.Sort.{Sort}
use Rattle.spec_core.specs.Numbers.{sort_number}
use Rattle.spec_core.specs.Sorts.{OnSome, HasSort, HaveSorts}
use Rattle.spec_core.specs.Terms.{TermTree, variable, apply, terms, term_of}
use Rattle.spec_core.specs.Theories.{Theory}
use Rattle.data_fits.specs.Heads.{head_sort, result_of}

on_some : {A : Type 0} (o : Option A) (P : A → Type 0) → OnSome o P → (d : A) × (o ≡ Some d) × P d
on_some None P h = absurd h
on_some (Some d) P h = (d, refl, h)

module _ (theory : Theory) (vars : ℕ → Option ℕ) where
  pub have_lengths : (xs : List Term) (ys : List Sort) → HaveSorts theory vars (terms (map term_of xs)) (map sort_number ys) →
      length xs ≡ length ys
  have_lengths [] [] h = refl
  have_lengths [] (y ∷ ys) h = absurd h
  have_lengths (x ∷ xs) [] h = absurd h
  have_lengths (x ∷ xs) (y ∷ ys) h = let k = have_lengths xs ys h.1 in omega (arith, k)

  pub have_at : (xs : List Term) (ys : List Sort) (i : ℕ) (x : Term) (d : Sort) → i < length xs → x ≡ get_or xs i x →
      HaveSorts theory vars (terms (map term_of xs)) (map sort_number ys) → HasSort theory vars (term_of x) (sort_number (get_or ys i d))
  have_at [] ys i x d w a h = absurd (omega arith)
  have_at (z ∷ xs) [] i x d w a h = absurd h
  have_at (z ∷ xs) (y ∷ ys) zero x d w a h = subst (λ t. HasSort theory vars (term_of t) (sort_number y)) (sym a) h.0
  have_at (z ∷ xs) (y ∷ ys) (suc i) x d w a h = have_at xs ys i x d (omega arith) a h.1

  have_suc : (xs : List Term) (ys : List Sort) (i : ℕ) (x : Term) (d : Sort) → i < length xs → i < length ys → x ≡ get_or xs i x →
      HaveSorts theory vars (terms (map term_of (take i xs))) (map sort_number (take i ys)) → HasSort theory vars (term_of x) (sort_number (get_or ys i d)) →
      HaveSorts theory vars (terms (map term_of (take (suc i) xs))) (map sort_number (take (suc i) ys))
  have_suc [] ys i x d w v a h k = absurd (omega arith)
  have_suc (z ∷ xs) [] i x d w v a h k = absurd (omega arith)
  have_suc (z ∷ xs) (y ∷ ys) zero x d w v a h k = (subst (λ t. HasSort theory vars (term_of t) (sort_number y)) a k, tt)
  have_suc (z ∷ xs) (y ∷ ys) (suc i) x d w v a h k = (h.0, have_suc xs ys i x d (omega arith) (omega arith) a h.1 k)

  pub have_next : (xs : List Term) (ys : List Sort) (i : ℕ) (x : Term) (d : Sort) → i < length xs → i < length ys → x ≡ get_or xs i x →
      HaveSorts theory vars (terms (map term_of (take i xs))) (map sort_number (take i ys)) → HasSort theory vars (term_of x) (sort_number (get_or ys i d)) →
      HaveSorts theory vars (terms (map term_of (take (i + 1) xs))) (map sort_number (take (i + 1) ys))
  have_next xs ys i x d w v a h k = rw add-one (have_suc xs ys i x d w v a h k)

  head_sort_of : (t : TermTree) (s : ℕ) → HasSort theory vars t s → head_sort theory vars t ≡ Some s
  head_sort_of (variable x) s h = h
  head_sort_of (apply f ts) s h =
      let d = on_some (slice_get theory.operations f) (λ d. (d.result ≡ s) × HaveSorts theory vars ts d.args) h in
      ap (option_map result_of) d.1 ∙ ap Some d.2.0

  -- a term has no sort but that of its head
  pub found_sort : (t : TermTree) (found s : ℕ) → Some found ≡ head_sort theory vars t → HasSort theory vars t s → s ≡ found
  found_sort t found s e h = let k : Some s ≡ Some found = sym (head_sort_of t s h) ∙ sym e in cc
