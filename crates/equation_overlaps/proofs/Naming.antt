-- Terms that are equal up to the names of their variables.
use Rattle.std.proofs.Common.{ℕ, ◌≡◌, ◌<◌, ◌+◌, List, [], ◌∷◌, ◌++◌, length, map, take, get_or, set, refl, sym, subst, ap}
use Rattle.std.proofs.Common.{◌∙◌}
use Rattle.std.proofs.Common.{arith, inl, inr, length-append}
use Rattle.std.proofs.lemmas.List.{get_or-set_same, get_or-set_other, take_more, map-append, length-map}
use Rattle.equation_faults.specs.Variables.{variables, all_variables}
use Rattle.equation_sets.proofs.Members.{Distinct, distinct_apart, parted}
use Rattle.spec_core.specs.Lists.{IsOneOf}
use Rattle.spec_core.specs.Terms.{TermTree, TermTrees, variable, apply, no_terms, and_term}
use Rattle.equation_shapes.specs.Shapes.{IsOfShape, AreOfShape}
use Rattle.equation_overlaps.specs.Renamings.{new_name, renamed_term, renamed_terms}

-- what is renamed is of the shape, and the shape is of its
mutual
  pub shape_back : (n : ℕ → ℕ) (t : TermTree) → IsOfShape (renamed_term n t) t
  shape_back n (variable x) = tt
  shape_back n (apply f ts) = (refl, shapes_back n ts)

  shapes_back : (n : ℕ → ℕ) (ts : TermTrees) → AreOfShape (renamed_terms n ts) ts
  shapes_back n no_terms = tt
  shapes_back n (and_term t ts) = (shape_back n t, shapes_back n ts)

-- two terms of each other's shape have as many variables
mutual
  pub as_many : (p q : TermTree) → IsOfShape p q → IsOfShape q p → length (variables p) ≡ length (variables q)
  as_many (variable x) (variable y) h k = refl
  as_many (variable x) (apply g qs) h k = absurd k
  as_many (apply f ps) (variable y) h k = absurd h
  as_many (apply f ps) (apply g qs) h k = all_as_many ps qs h.1 k.1

  all_as_many : (ps qs : TermTrees) → AreOfShape ps qs → AreOfShape qs ps → length (all_variables ps) ≡ length (all_variables qs)
  all_as_many no_terms no_terms h k = refl
  all_as_many no_terms (and_term q qs) h k = absurd h
  all_as_many (and_term p ps) no_terms h k = absurd h
  all_as_many (and_term p ps) (and_term q qs) h k =
      let a = as_many p q h.0 k.0 in
      let b = all_as_many ps qs h.1 k.1 in
      omega (arith, a, b, length-append (variables p) (all_variables ps), length-append (variables q) (all_variables qs))

-- lists that are equal where they are put together are equal part by part, if their first parts have one length
first_part : (xs us ys vs : List ℕ) → length xs ≡ length us → xs ++ ys ≡ us ++ vs → xs ≡ us
first_part [] [] ys vs n e = refl
first_part [] (u ∷ us) ys vs n e = absurd (omega (arith, n))
first_part (x ∷ xs) [] ys vs n e = absurd (omega (arith, n))
first_part (x ∷ xs) (u ∷ us) ys vs n e =
    let head : x ≡ u = cc in
    let tail : xs ++ ys ≡ us ++ vs = cc in
    let rest = first_part xs us ys vs (omega (arith, n)) tail in
    cc

second_part : (xs us ys vs : List ℕ) → length xs ≡ length us → xs ++ ys ≡ us ++ vs → ys ≡ vs
second_part [] [] ys vs n e = e
second_part [] (u ∷ us) ys vs n e = absurd (omega (arith, n))
second_part (x ∷ xs) [] ys vs n e = absurd (omega (arith, n))
second_part (x ∷ xs) (u ∷ us) ys vs n e =
    let tail : xs ++ ys ≡ us ++ vs = cc in second_part xs us ys vs (omega (arith, n)) tail

-- a term whose variables' new names are the other's variables is renamed to it
mutual
  pub renamed_to : (n : ℕ → ℕ) (p q : TermTree) → IsOfShape p q → IsOfShape q p → map n (variables p) ≡ variables q → renamed_term n p ≡ q
  renamed_to n (variable x) (variable y) h k e = let same : n x ≡ y = cc in ap variable same
  renamed_to n (variable x) (apply g qs) h k e = absurd k
  renamed_to n (apply f ps) (variable y) h k e = absurd h
  renamed_to n (apply f ps) (apply g qs) h k e =
      ap (λ z. apply z (renamed_terms n ps)) h.0 ∙ ap (apply g) (all_renamed_to n ps qs h.1 k.1 e)

  all_renamed_to : (n : ℕ → ℕ) (ps qs : TermTrees) → AreOfShape ps qs → AreOfShape qs ps → map n (all_variables ps) ≡ all_variables qs →
      renamed_terms n ps ≡ qs
  all_renamed_to n no_terms no_terms h k e = refl
  all_renamed_to n no_terms (and_term q qs) h k e = absurd h
  all_renamed_to n (and_term p ps) no_terms h k e = absurd h
  all_renamed_to n (and_term p ps) (and_term q qs) h k e =
      let joined : map n (variables p) ++ map n (all_variables ps) ≡ variables q ++ all_variables qs =
      sym (map-append n (variables p) (all_variables ps)) ∙ e in
      let counts : length (map n (variables p)) ≡ length (variables q) = length-map (variables p) n ∙ as_many p q h.0 k.0 in
      let one = renamed_to n p q h.0 k.0 (first_part (map n (variables p)) (variables q) (map n (all_variables ps)) (all_variables qs) counts joined) in
      let others = all_renamed_to n ps qs h.1 k.1
      (second_part (map n (variables p)) (variables q) (map n (all_variables ps)) (all_variables qs) counts joined) in
      ap (λ t. and_term t (renamed_terms n ps)) one ∙ ap (and_term q) others

-- one more new name
unchanged : (names : List ℕ) (x y : ℕ) (xs : List ℕ) → (IsOneOf x xs → ⊥) → map (new_name (set names x y)) xs ≡ map (new_name names) xs
unchanged names x y [] n = refl
unchanged names x y (z ∷ xs) n =
    ap (λ k. k ∷ map (new_name (set names x y)) xs) (get_or-set_other names x z y z (λ e. n (inl (sym e))))
    ∙ ap (λ ks. new_name names z ∷ ks) (unchanged names x y xs (λ o. n (inr o)))

pub named_next : (names from to : List ℕ) (i : ℕ) → i < length from → length from ≡ length to → Distinct from →
    get_or from i 0 < length names → map (new_name names) (take i from) ≡ take i to →
    map (new_name (set names (get_or from i 0) (get_or to i 0))) (take (i + 1) from) ≡ take (i + 1) to
named_next names from to i w paired distinct reached before =
    let x = get_or from i 0 in
    let y = get_or to i 0 in
    let n = new_name (set names x y) in
    let not : IsOneOf x (take i from) → ⊥ =
    λ o. distinct_apart (take i from) (x ∷ _) (subst Distinct (parted from i 0 w) distinct) x o (inl refl) in
    ap (map n) (take_more from i 0 w) ∙ map-append n (take i from) (x ∷ [])
    ∙ ap (λ ks. ks ++ n x ∷ []) (unchanged names x y (take i from) not ∙ before)
    ∙ ap (λ k. take i to ++ k ∷ []) (get_or-set_same names x y x reached)
    ∙ sym (take_more to i 0 (omega (arith, paired)))
