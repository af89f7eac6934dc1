-- The front that two texts share.
use Rattle.std.proofs.Common.{ℕ, zero, suc, ◌≡◌, ◌⊎◌, inl, inr, ◌==◌, ◌<◌, ◌≤◌, ◌+◌, ◌^◌, Bool, true, false, if◌then◌else◌, List, [], ◌∷◌, ◌++◌, codes, length, take, drop, get_or, drop-cons, decimal, min, leb}
use Rattle.std.proofs.Common.{refl, ap, sym, ◌∙◌, subst, arith, append_assoc, length-append}
use Rattle.std.proofs.lemmas.Bool.{eq-eqb, eqb-true, eqb-false}
use Rattle.std.proofs.lemmas.Bool.Decides.{nat_tests}
use Rattle.std.proofs.lemmas.List.{drop_all, take-append-drop}
use Rattle.value_text.proofs.Runs.{one_number}
use Rattle.trace_text.specs.declared.format.Format.TheVariants.{Two}
use Rattle.trace_text.specs.Formats.{common_front, rules_text}
use Rattle.trace_text.specs.Laws.{GreatestFront, IsFront}

-- the front of longer texts, by whether their first bytes are equal
at_bytes : (b c : ℕ) (bs cs : List ℕ) (same : Bool) → (b == c) ≡ same → IsFront (common_front bs cs) bs cs →
    IsFront (if same then suc (common_front bs cs) else 0) (b ∷ bs) (c ∷ cs)
at_bytes b c bs cs true e h = record {
  left = let l = h.left in omega (arith, l);
  right = let l = h.right in omega (arith, l);
  same = ap (λ z. z ∷ take (common_front bs cs) bs) (eqb-true b c e) ∙ ap (λ z. c ∷ z) h.same;
}
at_bytes b c bs cs false e h = record { left = omega arith; right = omega arith; same = refl }

pub is_front : (text other : List ℕ) → IsFront (common_front text other) text other
is_front [] other = record { left = omega arith; right = omega arith; same = refl }
is_front (b ∷ bs) [] = record { left = omega arith; right = omega arith; same = refl }
is_front (b ∷ bs) (c ∷ cs) = at_bytes b c bs cs (b == c) refl (is_front bs cs)

abbrev Greatest : ℕ → List ℕ → List ℕ → Type 0
Greatest m text other = (n : ℕ) → IsFront n text other → n ≤ m

first_same : (n b c : ℕ) (bs cs : List ℕ) → take (suc n) (b ∷ bs) ≡ take (suc n) (c ∷ cs) → (b ≡ c) × (take n bs ≡ take n cs)
first_same n b c bs cs h = (cc, cc)

greatest_at : (b c : ℕ) (bs cs : List ℕ) (same : Bool) → (b == c) ≡ same → Greatest (common_front bs cs) bs cs →
    Greatest (if same then suc (common_front bs cs) else 0) (b ∷ bs) (c ∷ cs)
greatest_at b c bs cs true e h zero f = omega arith
greatest_at b c bs cs true e h (suc n) f =
    let k = h n (record {
      left = let l = f.left in omega (arith, l);
      right = let l = f.right in omega (arith, l);
      same = (first_same n b c bs cs f.same).1;
    }) in
    omega (arith, k)
greatest_at b c bs cs false e h zero f = omega arith
greatest_at b c bs cs false e h (suc n) f = absurd (eqb-false b c e (first_same n b c bs cs f.same).0)

greatest : (text other : List ℕ) → Greatest (common_front text other) text other
greatest [] other n h = h.left
greatest (b ∷ bs) [] n h = h.right
greatest (b ∷ bs) (c ∷ cs) n h = greatest_at b c bs cs (b == c) refl (greatest bs cs) n h

pub greatest_front : GreatestFront
greatest_front text other = (is_front text other, greatest text other)

-- a text is the front of the one before it, and what stands behind
pub by_front : (before text : List ℕ) → take (common_front before text) before ++ drop (common_front before text) text ≡ text
by_front before text =
    ap (λ z. z ++ drop (common_front before text) text) (is_front before text).same ∙ take-append-drop (common_front before text) text

shared_parts : (n c t r : List ℕ) → (n ++ c ++ t) ++ r ≡ n ++ (c ++ (t ++ r))
shared_parts n c t r = simp append_assoc

-- texts behind one text of fewer than 2^64 bytes are those that they are shared as
pub unshared : (before x y r s : List ℕ) → length before < 2 ^ 64 → rules_text Two before x ++ r ≡ rules_text Two before y ++ s → x ++ r ≡ y ++ s
unshared before x y r s short h =
    let m = common_front before x in
    let n = common_front before y in
    let a = (is_front before x).left in
    let b = (is_front before y).left in
    let one =
    one_number m n (58 ∷ (drop m x ++ r)) (58 ∷ (drop n y ++ s)) (omega (arith, short, a)) (omega (arith, short, b)) refl refl
    (sym (shared_parts (decimal m) (codes ":") (drop m x) r) ∙ h ∙ shared_parts (decimal n) (codes ":") (drop n y) s) in
    ap (λ z. z ++ r) (sym (by_front before x)) ∙ append_assoc (take m before) (drop m x) r
    ∙ ap (λ z. take m before ++ z) (ap (drop 1) one.1) ∙ ap (λ k. take k before ++ (drop n y ++ s)) one.0
    ∙ sym (append_assoc (take n before) (drop n y) s) ∙ ap (λ z. z ++ s) (by_front before y)

-- a text isn't longer than the one before it and the text by which it is shared
pub shared_long : (before text : List ℕ) → length text ≤ length before + length (rules_text Two before text)
shared_long before text =
    let n = common_front before text in
    let a : length (rules_text Two before text) ≡ length (decimal n ++ codes ":") + length (drop n text) =
    length-append (decimal n ++ codes ":") (drop n text) in
    let c = length-append (take n text) (drop n text) in
    let d = ap length (take-append-drop n text) in
    let f = length-take_le n text in
    let g = (is_front before text).left in
    omega (arith, a, c, d, f, g)
  where
    length-take_le : (n : ℕ) (xs : List ℕ) → length (take n xs) ≤ n
    length-take_le zero xs = omega arith
    length-take_le (suc n) [] = omega arith
    length-take_le (suc n) (x ∷ xs) = let k = length-take_le n xs in omega (arith, k)

-- one byte more of the front
pub front_more : (i : ℕ) (x y : List ℕ) → i < length x → i < length y → get_or x i 0 ≡ get_or y i 0 →
    common_front (drop i x) (drop i y) ≡ suc (common_front (drop (suc i) x) (drop (suc i) y))
front_more i x y a b e =
    ap (λ z. common_front z (drop i y)) (drop-cons x i 0 a) ∙ ap (common_front (get_or x i 0 ∷ drop (suc i) x)) (drop-cons y i 0 b)
    ∙ at_same (get_or x i 0) (get_or y i 0) (drop (suc i) x) (drop (suc i) y) e
  where
    at_same : (b c : ℕ) (bs cs : List ℕ) → b ≡ c → common_front (b ∷ bs) (c ∷ cs) ≡ suc (common_front bs cs)
    at_same b c bs cs e = ap (λ (t : Bool). if t then suc (common_front bs cs) else 0) (eq-eqb b c e)

-- the front ends where bytes differ
pub front_ends : (i : ℕ) (x y : List ℕ) → i < length x → i < length y → (get_or x i 0 ≡ get_or y i 0 → ⊥) →
    common_front (drop i x) (drop i y) ≡ 0
front_ends i x y a b e =
    ap (λ z. common_front z (drop i y)) (drop-cons x i 0 a) ∙ ap (common_front (get_or x i 0 ∷ drop (suc i) x)) (drop-cons y i 0 b)
    ∙ at_other (get_or x i 0) (get_or y i 0) (drop (suc i) x) (drop (suc i) y) (get_or x i 0 == get_or y i 0) refl e
  where
    at_other : (b c : ℕ) (bs cs : List ℕ) (t : Bool) → (b == c) ≡ t → (b ≡ c → ⊥) → common_front (b ∷ bs) (c ∷ cs) ≡ 0
    at_other b c bs cs true f e = absurd (e (eqb-true b c f))
    at_other b c bs cs false f e = ap (λ (t : Bool). if t then suc (common_front bs cs) else 0) f

-- or where a text ends
pub front_over : (i : ℕ) (x y : List ℕ) → (length x ≤ i) ⊎ (length y ≤ i) → common_front (drop i x) (drop i y) ≡ 0
front_over i x y (inl h) = ap (λ z. common_front z (drop i y)) (drop_all i x h)
front_over i x y (inr h) = ap (common_front (drop i x)) (drop_all i y h) ∙ nothing (drop i x)
  where
    nothing : (x : List ℕ) → common_front x [] ≡ 0
    nothing [] = refl
    nothing (b ∷ x) = refl

either_short : (a b i : ℕ) → min a b ≤ i → (a ≤ i) ⊎ (b ≤ i)
either_short a b i h = go (leb a i) refl
  where
    go : (t : Bool) → leb a i ≡ t → (a ≤ i) ⊎ (b ≤ i)
    go true e = inl (grind (arith, nat_tests))
    go false e = let k : i < a = grind (arith, nat_tests) in inr (omega (arith, h, k))

-- the front reaches to the end of a text
pub front_whole : (n i : ℕ) (x y : List ℕ) → n ≡ min (length x) (length y) → n ≤ i → i ≤ n →
    common_front x y ≡ i + common_front (drop i x) (drop i y) → n ≡ common_front x y
front_whole n i x y end over within before =
    let k = front_over i x y (either_short (length x) (length y) i (omega (arith, end, over))) in
    omega (arith, over, within, before, k)
