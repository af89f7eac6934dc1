-- Lists of which all elements are read, one more element at a time.
use Rattle.std.proofs.Common.{ℕ, ◌≡◌, ◌∙◌, ◌<◌, ◌≤◌, ◌+◌, refl, sym, ap, subst, List, [], ◌∷◌, ◌++◌, length, get_or, take, map, append_assoc, append-nil, arith, Option, Some, None}
use Rattle.std.specs.Prelude.{option_map}
use Rattle.std.specs.List.{zip, enumerate_from}
use Rattle.std.proofs.lemmas.List.FromFn.{get_or-enumerate_from, length-enumerate_from}
use Rattle.std.proofs.lemmas.List.{map-append, get_or-map, length-map, take_all}
use Rattle.std.proofs.lemmas.Slice.Zip.{get_or-zip, length-zip}
use Rattle.spec_core.proofs.Lists.{take_next}
use Rattle.lotos_ast.specs.declared.refusal.Refusal.{Refusal}
use Rattle.sort_overloads.specs.Judged.{Adds}
use Rattle.static_readings.specs.ReadsAll.{before, all_before, ReadsAll, none, further}

-- an element as a list

abbrev pub alone : {B : Type 0} → Option B → Option (List B)
alone y = option_map (λ z. z ∷ []) y

pub first_alone : {B : Type 0} (y : Option B) → before y (Some []) ≡ all_before (Some []) (alone y)
first_alone None = refl
first_alone (Some y) = refl

pub joined_before : {B : Type 0} (y : Option B) (ys zs : Option (List B)) → before y (all_before ys zs) ≡ all_before (before y ys) zs
joined_before None ys zs = refl
joined_before (Some y) None zs = refl
joined_before (Some y) (Some ys) None = refl
joined_before (Some y) (Some ys) (Some zs) = refl

pub one_more : {A B : Type 0} {P : A → Option B → List Refusal → Type 0} {xs : List A} {ys : Option (List B)} {rs : List Refusal} (x : A) (y : Option B) (r : List Refusal)
    → ReadsAll P xs ys rs → P x y r → ReadsAll P (xs ++ x ∷ []) (all_before ys (alone y)) (rs ++ r)
one_more {P = P} x y r none p =
    subst (λ z. ReadsAll P (x ∷ []) z r) (first_alone y) (subst (λ z. ReadsAll P (x ∷ []) (before y (Some [])) z) (append-nil r) (further x [] y (Some []) r [] p none))
one_more {P = P} x y r (further w ws v vs q qs h more) p =
    subst (λ z. ReadsAll P (w ∷ (ws ++ x ∷ [])) z ((q ++ qs) ++ r)) (joined_before v vs (alone y))
    (subst (λ z. ReadsAll P (w ∷ (ws ++ x ∷ [])) (before v (all_before vs (alone y))) z) (sym (append_assoc q qs r))
    (further w (ws ++ x ∷ []) v (all_before vs (alone y)) q (qs ++ r) h (one_more x y r more p)))

mapped_alone : {B C : Type 0} (f : B → C) (all : Option (List B)) (y : Option B) → option_map (map f) (all_before all (alone y)) ≡ all_before (option_map (map f) all) (alone (option_map f y))
mapped_alone f None y = refl
mapped_alone f (Some ys) None = refl
mapped_alone f (Some ys) (Some y) = ap Some (map-append f ys (y ∷ []))

pub begun : {A C : Type 0} (P : A → Option C → List Refusal → Type 0) (old : List Refusal) → Adds (ReadsAll P [] (Some [])) old old
begun P old = record { refusals = []; such = none; behind = sym (append-nil old) }

pub next_behind : {A B C : Type 0} (P : A → Option C → List Refusal → Type 0) (f : B → C) (xs : List A) (x : A) (now then : Option (List B)) (one : Option B)
    (old mid new : List Refusal) → Adds (ReadsAll P xs (option_map (map f) now)) old mid → Adds (P x (option_map f one)) mid new
    → then ≡ all_before now (alone one) → Adds (ReadsAll P (xs ++ x ∷ []) (option_map (map f) then)) old new
next_behind P f xs x now then one old mid new h k is = record {
  refusals = h.refusals ++ k.refusals;
  such =
      subst (λ z. ReadsAll P (xs ++ x ∷ []) z (h.refusals ++ k.refusals)) (sym (mapped_alone f now one) ∙ ap (option_map (map f)) (sym is))
      (one_more x (option_map f one) k.refusals h.such k.such);
  behind = k.behind ∙ ap (λ z. z ++ k.refusals) h.behind ∙ append_assoc old h.refusals k.refusals;
}

pub next : {A B C : Type 0} (P : A → Option C → List Refusal → Type 0) (f : B → C) (xs : List A) (i : ℕ) (x : A) (now then : Option (List B)) (one : Option B)
    (old mid new : List Refusal) → i < length xs → x ≡ get_or xs i x → Adds (ReadsAll P (take i xs) (option_map (map f) now)) old mid
    → Adds (P x (option_map f one)) mid new → then ≡ all_before now (alone one) → Adds (ReadsAll P (take (i + 1) xs) (option_map (map f) then)) old new
next P f xs i x now then one old mid new within at h k is =
    subst (λ z. Adds (ReadsAll P z (option_map (map f) then)) old new) (sym (take_next xs i x within at))
    (next_behind P f (take i xs) x now then one old mid new h k is)

pub ended : {A C : Type 0} (P : A → Option C → List Refusal → Type 0) (xs : List A) (i : ℕ) (ys : Option (List C)) (old new : List Refusal)
    → length xs ≤ i → Adds (ReadsAll P (take i xs) ys) old new → Adds (ReadsAll P xs ys) old new
ended P xs i ys old new past h = subst (λ z. Adds (ReadsAll P z ys) old new) (take_all i xs past) h

-- two lists side by side

pub within_both : {A B : Type 0} (xs : List A) (ys : List B) (i : ℕ) → length xs ≡ length ys → i < length ys → i < length (zip xs ys)
within_both xs ys i same h = omega (arith, length-zip xs ys, same, h)

pub side_by_side : {A B C : Type 0} (f : C → A) (xs : List C) (ys : List B) (i : ℕ) (x : C) (y : B) → length xs ≡ length ys → i < length ys → x ≡ get_or xs i x → y ≡ get_or ys i y
    → (f x, y) ≡ get_or (zip (map f xs) ys) i (f x, y)
side_by_side f xs ys i x y same h at there =
    ap (λ z. (z, y)) (ap f at ∙ sym (get_or-map f xs i x (f x) (omega (arith, same, h)))) ∙ ap (λ z. (get_or (map f xs) i (f x), z)) there
    ∙ sym (get_or-zip (map f xs) ys i (f x, y) (omega (arith, length-map xs f, same, h)) h)

-- elements with their numbers

pub within_numbered : {A : Type 0} (n : ℕ) (xs : List A) (i : ℕ) → i < length xs → i < length (enumerate_from n xs)
within_numbered n xs i h = omega (arith, length-enumerate_from n xs, h)

pub numbered_at : {A : Type 0} (n m : ℕ) (xs : List A) (i : ℕ) (x : A) → m ≡ n + i → i < length xs → x ≡ get_or xs i x → (m, x) ≡ get_or (enumerate_from n xs) i (m, x)
numbered_at n m xs i x is h at = ap (λ z. (z, x)) is ∙ ap (λ z. (n + i, z)) at ∙ sym (get_or-enumerate_from n xs i (m, x) h)
