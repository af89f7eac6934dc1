-- What is made once, from what is settled, is settled.
use Rattle.std.proofs.Common.{◌≡◌, ◌≢◌, ◌∙◌, refl, sym, ap, subst, List, [], ◌∷◌, ℕ, zero, suc, ◌<◌, ◌≤◌, length, set, get_or, Option, None, Some, is_some, unwrap_or, arith, Bool, true, false, ◌||◌, nat_le, nat_eq}
use Rattle.std.specs.List.{AllByRecursion, list_all, slice_index_or}
use Rattle.std.proofs.lemmas.List.{ext_get_or, get_or-map, length-map, get_or-set_same, get_or-set_other}
use Rattle.std.proofs.lemmas.Grind.{common_steps}
use Rattle.std.proofs.lemmas.Bool.{eqb-true, eq-eqb, and_parts}
use Rattle.std.proofs.lemmas.Option.{same_Some}
use Rattle.type_contents.specs.Rounds.{rounds, table}
use Rattle.type_contents.specs.Settled.{is_ready, are_ready, known, IsSettled}

differ : (j k : ℕ) → nat_eq j k ≡ false → j ≢ k
differ j k e h = absurd (false_true (sym e ∙ eq-eqb j k h))
  where
    false_true : false ≡ true → ⊥
    false_true e = cc

some_at : {A : Type 0} (found : List (Option A)) (i : ℕ) → list_all is_some found ≡ true → i < length found → is_some (slice_index_or found i None) ≡ true
some_at [] i each h = absurd (omega (arith, h))
some_at (x ∷ xs) zero each h = let p : (is_some x ≡ true) × (list_all is_some xs ≡ true) = and_parts (is_some x) (list_all is_some xs) each in p.0
some_at (x ∷ xs) (suc i) each h = let p : (is_some x ≡ true) × (list_all is_some xs ≡ true) = and_parts (is_some x) (list_all is_some xs) each in some_at xs i p.1 (omega (arith, h))

pub past_all : {A : Type 0} (xs : List A) (k : ℕ) (d : A) → length xs ≤ k → slice_index_or xs k d ≡ d
past_all [] k d h = refl
past_all (x ∷ xs) zero d h = absurd (omega (arith, h))
past_all (x ∷ xs) (suc k) d h = past_all xs k d (omega (arith, h))

pub rounds_length : {D A : Type 0} (nothing : A) (make : List A → D → A) (all : List D) (n : ℕ) → length (rounds nothing make all n) ≡ length all
rounds_length nothing make all zero = length-map all (λ _. nothing)
rounds_length nothing make all (suc n) = length-map all (make (rounds nothing make all n))

known_read : {A : Type 0} (nothing : A) (found : List (Option A)) (k : ℕ) → slice_index_or (known nothing found) k nothing ≡ unwrap_or (slice_index_or found k None) nothing
known_read nothing [] k = refl
known_read nothing (x ∷ xs) zero = refl
known_read nothing (x ∷ xs) (suc k) = known_read nothing xs k

-- each round agrees with what is known, at what is ready
agree_at : {D A : Type 0} (nothing : A) (make : List A → D → A) (all : List D) (found : List (Option A)) (n m j : ℕ) → IsSettled nothing make all found n → length found ≡ length all → n ≤ m → is_ready found j ≡ true → slice_index_or (rounds nothing make all m) j nothing ≡ slice_index_or (known nothing found) j nothing
agree_at {A = A} nothing make all found n m j settled same le ready = by_test (nat_le (length found) j) refl
  where
    by_value : (x : Option A) → slice_index_or found j None ≡ x → is_some x ≡ true → slice_index_or (rounds nothing make all m) j nothing ≡ slice_index_or (known nothing found) j nothing
    by_value None e h = absurd (cc)
    by_value (Some x) e h = settled j x e m le ∙ sym (known_read nothing found j ∙ ap (λ z. unwrap_or z nothing) e)

    by_test : (b : Bool) → nat_le (length found) j ≡ b → slice_index_or (rounds nothing make all m) j nothing ≡ slice_index_or (known nothing found) j nothing
    by_test true e =
        past_all (rounds nothing make all m) j nothing (grind (arith, common_steps, e, same, rounds_length nothing make all m))
        ∙ sym (past_all (known nothing found) j nothing (grind (arith, common_steps, e, length-map found (λ x. unwrap_or x nothing))))
    by_test false e = by_value (slice_index_or found j None) refl (sym (ap (λ z. z || is_some (slice_index_or found j None)) e) ∙ ready)

all_agree : {D A : Type 0} (nothing : A) (make : List A → D → A) (all : List D) (found : List (Option A)) (n m : ℕ) (used : List ℕ) → IsSettled nothing make all found n → length found ≡ length all → n ≤ m → are_ready found used ≡ true → AllByRecursion (λ j. slice_index_or (rounds nothing make all m) j nothing ≡ slice_index_or (known nothing found) j nothing) used
all_agree nothing make all found n m [] settled same le ready = tt
all_agree nothing make all found n m (j ∷ js) settled same le ready =
    let h : (is_ready found j ≡ true) × (are_ready found js ≡ true) = and_parts (is_ready found j) (are_ready found js) ready in
    (agree_at nothing make all found n m j settled same le h.0, all_agree nothing make all found n m js settled same le h.1)

pub settle_one : {D A : Type 0} (nothing : A) (make : List A → D → A) (all : List D) (found : List (Option A)) (n k : ℕ) (d : D) (x : A) (used : List ℕ)
    → ((t u : List A) → AllByRecursion (λ j. slice_index_or t j nothing ≡ slice_index_or u j nothing) used → make t d ≡ make u d)
    → IsSettled nothing make all found n → length found ≡ length all → k < length all → d ≡ get_or all k d → are_ready found used ≡ true → x ≡ make (known nothing found) d
    → IsSettled nothing make all (set found k (Some x)) (suc n)
settle_one nothing make all found n k d x used looks settled same within at ready made j y is m le = by_number (nat_eq j k) refl
  where
    by_round : (m : ℕ) → suc n ≤ m → slice_index_or (rounds nothing make all m) k nothing ≡ x
    by_round zero h = absurd (omega (arith, h))
    by_round (suc m) h =
        get_or-map (make (rounds nothing make all m)) all k d nothing within ∙ ap (make (rounds nothing make all m)) (sym at)
        ∙ looks (rounds nothing make all m) (known nothing found) (all_agree nothing make all found n m used settled same (omega (arith, h)) ready) ∙ sym made

    by_number : (b : Bool) → nat_eq j k ≡ b → slice_index_or (rounds nothing make all m) j nothing ≡ y
    by_number true e =
        let h : j ≡ k = eqb-true j k e in
        let v : k < length found = subst (λ z. k < z) (sym same) within in
        ap (λ z. slice_index_or (rounds nothing make all m) z nothing) h ∙ by_round m le
        ∙ same_Some x y (sym (get_or-set_same found k (Some x) None v) ∙ sym (ap (λ z. get_or (set found k (Some x)) z None) h) ∙ is)
    by_number false e = settled j y (sym (get_or-set_other found k j (Some x) None (differ j k e)) ∙ is) m (omega (arith, le))

pub all_settled : {D A : Type 0} (nothing : A) (make : List A → D → A) (all : List D) (found : List (Option A)) (n : ℕ) → IsSettled nothing make all found n → n ≤ length all → length found ≡ length all → list_all is_some found ≡ true → known nothing found ≡ table nothing make all
all_settled {A = A} nothing make all found n settled le same each =
    ext_get_or nothing (known nothing found) (table nothing make all) (length-map found (λ x. unwrap_or x nothing) ∙ same ∙ sym (rounds_length nothing make all (length all)))
    (λ i h. at i (subst (λ z. i < z) (length-map found (λ x. unwrap_or x nothing)) h))
  where
    by_value : (i : ℕ) (o : Option A) → slice_index_or found i None ≡ o → is_some o ≡ true → slice_index_or (known nothing found) i nothing ≡ slice_index_or (table nothing make all) i nothing
    by_value i None e h = absurd (cc)
    by_value i (Some x) e h = known_read nothing found i ∙ ap (λ z. unwrap_or z nothing) e ∙ sym (settled i x e (length all) le)

    at : (i : ℕ) → i < length found → slice_index_or (known nothing found) i nothing ≡ slice_index_or (table nothing make all) i nothing
    at i h = by_value i (slice_index_or found i None) refl (some_at found i each h)
