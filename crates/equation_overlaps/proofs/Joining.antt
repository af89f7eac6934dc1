-- The common instances of two lists of terms, and the names of their variables, one by one.
use Rattle.std.proofs.Common.{ℕ, zero, suc, ◌≡◌, ◌<◌, ◌≤◌, ◌+◌, List, [], ◌∷◌, ◌++◌, length, map, take, get_or, add-one, refl}
use Rattle.std.proofs.Common.{ap, ◌∙◌, arith}
use Rattle.spec_core.specs.declared.term.Term.{Term}
use Rattle.spec_core.specs.Terms.{TermTree, TermTrees, no_terms, and_term, terms, term_of}
use Rattle.equation_overlaps.specs.Common.{common_instance, common_instances}

abbrev Trees : List Term → TermTrees
Trees xs = terms (map term_of xs)

joined_suc : (n : ℕ) (xs ys : List Term) (i : ℕ) (x y : Term) (made : List TermTree) (t : TermTree) → i < length xs → i < length ys →
    x ≡ get_or xs i x → y ≡ get_or ys i y → terms made ≡ common_instances n (Trees (take i xs)) (Trees (take i ys)) →
    t ≡ common_instance n (term_of x) (term_of y) →
    terms (made ++ t ∷ []) ≡ common_instances n (Trees (take (suc i) xs)) (Trees (take (suc i) ys))
joined_suc n [] ys i x y made t w v a b e k = absurd (omega arith)
joined_suc n (z ∷ xs) [] i x y made t w v a b e k = absurd (omega arith)
joined_suc n (z ∷ xs) (u ∷ ys) zero x y [] t w v a b e k =
    ap (λ s. and_term s no_terms) (k ∙ ap (λ s. common_instance n (term_of s) (term_of y)) a ∙ ap (λ s. common_instance n (term_of z) (term_of s)) b)
joined_suc n (z ∷ xs) (u ∷ ys) zero x y (m ∷ made) t w v a b e k = cc
joined_suc n (z ∷ xs) (u ∷ ys) (suc i) x y [] t w v a b e k = cc
joined_suc n (z ∷ xs) (u ∷ ys) (suc i) x y (m ∷ made) t w v a b e k =
    let first : m ≡ common_instance n (term_of z) (term_of u) = cc in
    let rest : terms made ≡ common_instances n (Trees (take i xs)) (Trees (take i ys)) = cc in
    let more = joined_suc n xs ys i x y made t (omega arith) (omega arith) a b rest k in
    ap (λ s. and_term s (terms (made ++ t ∷ []))) first ∙ ap (and_term (common_instance n (term_of z) (term_of u))) more

pub joined_next : (n : ℕ) (xs ys : List Term) (i : ℕ) (x y : Term) (old new : List TermTree) (t : TermTree) → i < length xs →
    i < length ys →
    x ≡ get_or xs i x → y ≡ get_or ys i y → terms old ≡ common_instances n (Trees (take i xs)) (Trees (take i ys)) →
    t ≡ common_instance n (term_of x) (term_of y) → new ≡ old ++ t ∷ [] →
    terms new ≡ common_instances n (Trees (take (i + 1) xs)) (Trees (take (i + 1) ys))
joined_next n xs ys i x y old new t w v a b e k pushed = ap terms pushed ∙ rw add-one (joined_suc n xs ys i x y old t w v a b e k)

-- the second list ends, or the first does
pub right_end : (n : ℕ) (xs ys : List Term) (i : ℕ) → length ys ≤ i →
    common_instances n (Trees (take i xs)) (Trees (take i ys)) ≡ common_instances n (Trees xs) (Trees ys)
right_end n [] ys zero w = refl
right_end n [] ys (suc i) w = refl
right_end n (x ∷ xs) [] zero w = refl
right_end n (x ∷ xs) [] (suc i) w = refl
right_end n (x ∷ xs) (y ∷ ys) zero w = absurd (omega arith)
right_end n (x ∷ xs) (y ∷ ys) (suc i) w = ap (and_term (common_instance n (term_of x) (term_of y))) (right_end n xs ys i (omega arith))

pub left_end : (n : ℕ) (xs ys : List Term) (i : ℕ) → length xs ≤ i →
    common_instances n (Trees (take i xs)) (Trees (take i ys)) ≡ common_instances n (Trees xs) (Trees ys)
left_end n [] ys zero w = refl
left_end n [] ys (suc i) w = refl
left_end n (x ∷ xs) ys zero w = absurd (omega arith)
left_end n (x ∷ xs) [] (suc i) w = refl
left_end n (x ∷ xs) (y ∷ ys) (suc i) w = ap (and_term (common_instance n (term_of x) (term_of y))) (left_end n xs ys i (omega arith))
