-- The variables of terms, and terms over other numbers of variables.
use Rattle.std.proofs.Common.{ℕ, zero, suc, ◌≡◌, ◌<◌, ◌≤◌, ◌+◌, List, [], ◌∷◌, ◌++◌, Option, Some, None, length, map, take, get_or, refl, ap, sym, ◌∙◌, arith}
use Rattle.std.proofs.lemmas.List.{append-nil}
use Rattle.std.specs.List.{flat_map, filter_map, cons_option, slice_get}
use Rattle.std.specs.Prelude.{option_to_list}
use Rattle.std.proofs.lemmas.List.Elements.{filter_map-append}
use Rattle.std.proofs.lemmas.List.Concat.{flat_map-append}
use Rattle.spec_core.specs.Terms.{TermTree, and_term, terms, instance, instances}
use Rattle.spec_core.proofs.Lists.{take_next}
use Rattle.static_equations.specs.Numbered.{occurring, all_occurring, with_variable, with_variables, variables_at}
use Rattle.sort_overloads.specs.Readings.{Declared}

pub with-joined : (all xs ys : List ℕ) → with_variables (with_variables all xs) ys ≡ with_variables all (xs ++ ys)
with-joined all [] ys = refl
with-joined all (x ∷ xs) ys = with-joined (with_variable all x) xs ys

-- those of one more element
pub with-next : {A : Type 0} (f : A → List ℕ) (all now then : List ℕ) (xs : List A) (i : ℕ) (x : A) → i < length xs → x ≡ get_or xs i x → now ≡ with_variables all (flat_map f (take i xs)) → then ≡ with_variables now (f x) → then ≡ with_variables all (flat_map f (take (i + 1) xs))
with-next f all now then xs i x within at before more =
    more ∙ ap (λ z. with_variables z (f x)) before ∙ with-joined all (flat_map f (take i xs)) (f x)
    ∙ ap (with_variables all) (sym (ap (flat_map f) (take_next xs i x within at) ∙ flat_map-append f (take i xs) (x ∷ []) ∙ ap (λ z. flat_map f (take i xs) ++ z) (append-nil (f x))))

pub occurring-in : {A : Type 0} (view : A → TermTree) (xs : List A) → flat_map (λ x. occurring (view x)) xs ≡ all_occurring (terms (map view xs))
occurring-in view [] = refl
occurring-in view (x ∷ xs) = ap (λ z. occurring (view x) ++ z) (occurring-in view xs)

pub instances-of : {A : Type 0} (s : ℕ → TermTree) (view : A → TermTree) (xs : List A) → terms (map (λ x. instance s (view x)) xs) ≡ instances s (terms (map view xs))
instances-of s view [] = refl
instances-of s view (x ∷ xs) = ap (λ z. and_term (instance s (view x)) z) (instances-of s view xs)

pub mapped-got : {A B : Type 0} (f : A → B) (xs : List A) (i : ℕ) (x : A) → i < length xs → x ≡ get_or xs i x → slice_get (map f xs) i ≡ Some (f x)
mapped-got f [] i x within at = absurd (omega arith)
mapped-got f (y ∷ ys) zero x within at = ap (λ z. Some (f z)) (sym at)
mapped-got f (y ∷ ys) (suc i) x within at = mapped-got f ys i x (omega arith) at

pub mapped-none : {A B : Type 0} (f : A → B) (xs : List A) (i : ℕ) → length xs ≤ i → slice_get (map f xs) i ≡ None
mapped-none f [] zero past = refl
mapped-none f [] (suc i) past = refl
mapped-none f (y ∷ ys) zero past = absurd (omega arith)
mapped-none f (y ∷ ys) (suc i) past = mapped-none f ys i (omega arith)

-- the variable of one more number
pub variables-more : (declared : List Declared) (numbers : List ℕ) (i : ℕ) → i < length numbers → variables_at declared (take (i + 1) numbers) ≡ variables_at declared (take i numbers) ++ option_to_list (slice_get declared (get_or numbers i 0))
variables-more declared numbers i within =
    ap (filter_map (slice_get declared)) (take_next numbers i (get_or numbers i 0) within (get_or_any numbers i within))
    ∙ filter_map-append (slice_get declared) (take i numbers) (get_or numbers i 0 ∷ [])
    ∙ ap (λ z. variables_at declared (take i numbers) ++ z) (alone (slice_get declared (get_or numbers i 0)))
  where
    alone : (o : Option Declared) → cons_option o [] ≡ option_to_list o
    alone None = refl
    alone (Some x) = refl

    get_or_any : (xs : List ℕ) (k : ℕ) → k < length xs → get_or xs k 0 ≡ get_or xs k (get_or xs k 0)
    get_or_any [] k h = absurd (omega arith)
    get_or_any (x ∷ xs) zero h = refl
    get_or_any (x ∷ xs) (suc k) h = get_or_any xs k (omega arith)
