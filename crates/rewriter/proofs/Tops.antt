-- Values on top of others.
use Rattle.std.proofs.Common.{ℕ, zero, suc, ◌≡◌, ◌+◌, ◌-◌, ◌≤◌, List, [], ◌∷◌, ◌++◌, length, map, take, drop, reverse, refl, sym, ap}
use Rattle.std.proofs.Common.{subst, ◌∙◌, arith, append_assoc}
use Rattle.std.proofs.lemmas.List.{reverse-append, reverse-reverse, length-reverse, length-drop, take-append-drop, drop_at, take_all}
use Rattle.spec_core.specs.Lists.{Each}
use Rattle.spec_core.specs.Terms.{TermTree, TermTrees, no_terms, and_term, terms, width}
use Rattle.spec_core.proofs.Lists.{each_append, each_take}
use Rattle.rewriter.specs.Machine.{top}

-- the end of a list, as the first elements of the reversed one
pub from_top : (xs : List ℕ) (n k : ℕ) → k ≡ length xs - n → take (length xs - k) (drop k xs) ≡ reverse (take n (reverse xs))
from_top xs n k e =
    let ys = reverse xs in
    let a = reverse (drop n ys) in
    let b = reverse (take n ys) in
    let parts : xs ≡ a ++ b = sym (reverse-reverse xs) ∙ ap reverse (sym (take-append-drop n ys)) ∙ reverse-append (take n ys)
    (drop n ys) in
    let l : length a ≡ k = omega (arith, length-reverse (drop n ys), length-drop n ys, length-reverse xs, e) in
    let d : drop k xs ≡ b = ap (drop k) parts ∙ ap (λ i. drop i (a ++ b)) (sym l) ∙ drop_at a b (length a) refl in
    take_all (length xs - k) (drop k xs) (omega (arith, length-drop k xs)) ∙ d

module _ (f : ℕ → TermTree) where
  top_before : (k : ℕ) (vs ds : List ℕ) → top k (map f vs) (terms (map f ds)) ≡ terms (map f (reverse (take k vs) ++ ds))
  top_before zero vs ds = refl
  top_before (suc k) [] ds = refl
  top_before (suc k) (v ∷ vs) ds =
      let r : reverse (v ∷ take k vs) ++ ds ≡ reverse (take k vs) ++ v ∷ ds =
      ap (λ us. us ++ ds) (reverse-append (v ∷ []) (take k vs)) ∙ append_assoc (reverse (take k vs)) (v ∷ []) ds in
      top_before k vs (v ∷ ds) ∙ ap (λ us. terms (map f us)) (sym r)

  pub top_terms : (k : ℕ) (vs : List ℕ) → top k (map f vs) no_terms ≡ terms (map f (reverse (take k vs)))
  top_terms k vs = top_before k vs [] ∙ ap (λ us. terms (map f us)) (append_nil_here (reverse (take k vs)))
    where
      append_nil_here : (us : List ℕ) → us ++ [] ≡ us
      append_nil_here [] = refl
      append_nil_here (u ∷ us) = ap (λ ws. u ∷ ws) (append_nil_here us)

  pub drop_map : (k : ℕ) (vs : List ℕ) → map f (drop k vs) ≡ drop k (map f vs)
  drop_map zero vs = refl
  drop_map (suc k) [] = refl
  drop_map (suc k) (v ∷ vs) = drop_map k vs

wide_top : (k : ℕ) (vals : List TermTree) (done : TermTrees) → width done ≤ width (top k vals done)
wide_top zero vals done = omega arith
wide_top (suc k) [] done = omega arith
wide_top (suc k) (v ∷ vals) done = let h = wide_top k vals (and_term v done) in omega (arith, h)

-- how many there are tells which they are
same_top : (k w : ℕ) (vals : List TermTree) (done : TermTrees) → width (top k vals done) ≡ w + width done →
    (top k vals done ≡ top w vals done) × (drop k vals ≡ drop w vals)
same_top zero zero vals done e = (refl, refl)
same_top zero (suc w) vals done e = absurd (omega (arith, e))
same_top (suc k) zero [] done e = (refl, refl)
same_top (suc k) (suc w) [] done e = (refl, refl)
same_top (suc k) zero (v ∷ vals) done e = absurd (let h = wide_top k vals (and_term v done) in omega (arith, h, e))
same_top (suc k) (suc w) (v ∷ vals) done e = same_top k w vals (and_term v done) (omega (arith, e))

pub top_width : (k w : ℕ) (vals : List TermTree) → width (top k vals no_terms) ≡ w →
    (top k vals no_terms ≡ top w vals no_terms) × (drop k vals ≡ drop w vals)
top_width k w vals e = same_top k w vals no_terms (omega (arith, e))

pub each_reversed : {A : Type 0} (P : A → Type 0) (xs : List A) → Each P xs → Each P (reverse xs)
each_reversed P [] e = tt
each_reversed P (x ∷ xs) e = subst (Each P) (sym (reverse-append (x ∷ []) xs))
    (each_append P (reverse xs) (x ∷ []) (each_reversed P xs e.1) (e.0, tt))

pub each_top : (P : ℕ → Type 0) (k : ℕ) (xs : List ℕ) → Each P xs → Each P (reverse (take k xs))
each_top P k xs e = each_reversed P (take k xs) (each_take P k xs e)

pub each_under : (P : ℕ → Type 0) (k : ℕ) (xs : List ℕ) → Each P xs → Each P (drop k xs)
each_under P zero xs e = e
each_under P (suc k) [] e = tt
each_under P (suc k) (x ∷ xs) e = each_under P k xs e.1

few_taken : (k : ℕ) (xs : List ℕ) → length (take k xs) ≤ k
few_taken zero xs = omega arith
few_taken (suc k) [] = omega arith
few_taken (suc k) (x ∷ xs) = let h = few_taken k xs in omega (arith, h)

-- there are no more on top than are asked for
pub few_top : (k : ℕ) (xs : List ℕ) → length (reverse (take k xs)) ≤ k
few_top k xs = omega (arith, few_taken k xs, length-reverse (take k xs))
