-- Sets of offers that grow and shrink.
use Rattle.std.proofs.Common.{ℕ, ◌≡◌, ◌+◌, ◌==◌, Bool, true, false, not, cond, ◌&&◌, ◌||◌, if◌then◌else◌, List, [], ◌∷◌, ◌<◌, ◌++◌, length, take, get_or, add-one, filter, refl, ap, sym, ◌∙◌, subst, arith}
use Rattle.std.proofs.lemmas.Bool.{eqb-true, eq-eqb}
use Rattle.std.proofs.Math.Seq.{take-suc}
use Rattle.std.specs.List.{list_any}
use Rattle.rule_model.specs.Events.{OfferName}
use Rattle.trace_text.specs.Pending.{IsOnce, is_among, is_same_offer, with_offer, without_offer, without_offers}

same_both : (a b c d : ℕ) (r s : Bool) → (a == c) ≡ r → (b == d) ≡ s → (r && s) ≡ true → (a ≡ c) × (b ≡ d)
same_both a b c d true true e f h = (eqb-true a c e, eqb-true b d f)
same_both a b c d true false e f h = absurd (let wrong : false ≡ true = h in cc)
same_both a b c d false s e f h = absurd (let wrong : false ≡ true = h in cc)

pub is_same : (x y : OfferName) → is_same_offer x y ≡ true → x ≡ y
is_same x y h =
    let k = same_both x.0 x.1 y.0 y.1 (x.0 == y.0) (x.1 == y.1) refl refl h in
    ap (λ a. (a, x.1)) k.0 ∙ ap (λ b. (y.0, b)) k.1

same_self : (x : OfferName) → is_same_offer x x ≡ true
same_self x = ap (λ z. z && (x.1 == x.1)) (eq-eqb x.0 x.0 refl) ∙ eq-eqb x.1 x.1 refl

nothing_left : (b : Bool) → false ≡ cond b false false
nothing_left true = refl
nothing_left false = refl

-- the other way round
same_back : (x y : OfferName) (b : Bool) → is_same_offer x y ≡ b → is_same_offer y x ≡ b
same_back x y true h = subst (λ z. is_same_offer y z ≡ true) (sym (is_same x y h)) (same_self y)
same_back x y false h = go (is_same_offer y x) refl
  where
    go : (b : Bool) → is_same_offer y x ≡ b → is_same_offer y x ≡ false
    go true k =
        let e : is_same_offer x y ≡ true = subst (λ z. is_same_offer x z ≡ true) (sym (is_same y x k)) (same_self x) in
        let wrong : true ≡ false = sym e ∙ h in
        cc
    go false k = k

-- what is among the offers with one more
has_with : (q name : OfferName) (offers : List OfferName) (same there : Bool) → is_same_offer name q ≡ same → is_among name offers ≡ there →
    is_among q (if there then offers else name ∷ offers) ≡ cond same true (is_among q offers)
has_with q name offers true true e h = subst (λ z. is_among z offers ≡ true) (is_same name q e) h
has_with q name offers false true e h = refl
has_with q name offers true false e h = ap (λ z. z || is_among q offers) (same_back name q true e)
has_with q name offers false false e h = ap (λ z. z || is_among q offers) (same_back name q false e)

pub is_with : (q name : OfferName) (offers : List OfferName) → is_among q (with_offer name offers) ≡ cond (is_same_offer name q) true (is_among q offers)
is_with q name offers = has_with q name offers (is_same_offer name q) (is_among name offers) refl refl

count_there : (name : OfferName) (offers : List OfferName) (there : Bool) →
    length (if there then offers else name ∷ offers) ≡ length offers + (if not there then 1 else 0)
count_there name offers true = omega arith
count_there name offers false = omega arith

pub count_with : (name : OfferName) (offers : List OfferName) →
    length (with_offer name offers) ≡ length offers + (if not (is_among name offers) then 1 else 0)
count_with name offers = count_there name offers (is_among name offers)

once_there : (name : OfferName) (offers : List OfferName) (there : Bool) → is_among name offers ≡ there → IsOnce offers →
    IsOnce (if there then offers else name ∷ offers)
once_there name offers true e h = h
once_there name offers false e h = (e, h)

pub once_with : (name : OfferName) (offers : List OfferName) → IsOnce offers → IsOnce (with_offer name offers)
once_with name offers h = once_there name offers (is_among name offers) refl h

-- what is among the offers without one
has_without : (q name x : OfferName) (offers : List OfferName) (left same : Bool) → is_same_offer name x ≡ left → is_same_offer name q ≡ same →
    is_among q (without_offer name offers) ≡ cond same false (is_among q offers) →
    is_among q (cond (not left) (x ∷ without_offer name offers) (without_offer name offers)) ≡ cond same false (is_same_offer q x || is_among q offers)
has_without q name x offers true true e f h = h
has_without q name x offers false true e f h =
    ap (λ z. z || is_among q (without_offer name offers)) (subst (λ z. is_same_offer z x ≡ false) (is_same name q f) e) ∙ h
has_without q name x offers true false e f h =
    h ∙ ap (λ z. z || is_among q offers) (sym (subst (λ z. is_same_offer q z ≡ false) (is_same name x e) (same_back name q false f)))
has_without q name x offers false false e f h = ap (λ z. is_same_offer q x || z) h

pub is_without : (q name : OfferName) (offers : List OfferName) →
    is_among q (without_offer name offers) ≡ cond (is_same_offer name q) false (is_among q offers)
is_without q name [] = nothing_left (is_same_offer name q)
is_without q name (x ∷ offers) =
    has_without q name x offers (is_same_offer name x) (is_same_offer name q) refl refl (is_without q name offers)

-- without an offer that isn't there
length_apart : (name : OfferName) (offers : List OfferName) → is_among name offers ≡ false → length (without_offer name offers) ≡ length offers
length_apart name [] h = refl
length_apart name (x ∷ offers) h = go (is_same_offer name x) refl (length_apart name offers)
  where
    go : (b : Bool) → is_same_offer name x ≡ b →
        (is_among name offers ≡ false → length (without_offer name offers) ≡ length offers) →
        length (cond (not (is_same_offer name x)) (x ∷ without_offer name offers) (without_offer name offers)) ≡ length (x ∷ offers)
    go true e later = absurd (let wrong : true ≡ false = sym (ap (λ z. z || is_among name offers) e) ∙ h in cc)
    go false e later =
        let k = later (sym (ap (λ z. z || is_among name offers) e) ∙ h) in
        ap (λ b. length (cond (not b) (x ∷ without_offer name offers) (without_offer name offers))) e ∙ omega (arith, k)

pub count_without : (name : OfferName) (offers : List OfferName) → IsOnce offers →
    length (without_offer name offers) + (if is_among name offers then 1 else 0) ≡ length offers
count_without name [] h = refl
count_without name (x ∷ offers) h = go (is_same_offer name x) refl (count_without name offers h.1)
  where
    go : (b : Bool) → is_same_offer name x ≡ b →
        length (without_offer name offers) + (if is_among name offers then 1 else 0) ≡ length offers →
        length (cond (not (is_same_offer name x)) (x ∷ without_offer name offers) (without_offer name offers))
        + (if is_same_offer name x || is_among name offers then 1 else 0) ≡ length (x ∷ offers)
    go true e k =
        let l = length_apart name offers (subst (λ z. is_among z offers ≡ false) (sym (is_same name x e)) h.0) in
        ap (λ b. length (cond (not b) (x ∷ without_offer name offers) (without_offer name offers)) + (if b || is_among name offers then 1 else 0)) e
        ∙ omega (arith, l)
    go false e k =
        ap (λ b. length (cond (not b) (x ∷ without_offer name offers) (without_offer name offers)) + (if b || is_among name offers then 1 else 0)) e
        ∙ omega (arith, k)

once_left : (name x : OfferName) (offers : List OfferName) (left : Bool) → is_among x (without_offer name offers) ≡ false →
    IsOnce (without_offer name offers) → IsOnce (cond (not left) (x ∷ without_offer name offers) (without_offer name offers))
once_left name x offers true h k = k
once_left name x offers false h k = (h, k)

none_left : (b : Bool) (there : Bool) → there ≡ false → cond b false there ≡ false
none_left true there h = refl
none_left false there h = h

pub once_without : (name : OfferName) (offers : List OfferName) → IsOnce offers → IsOnce (without_offer name offers)
once_without name [] h = tt
once_without name (x ∷ offers) h =
    once_left name x offers (is_same_offer name x)
    (is_without x name offers ∙ none_left (is_same_offer name x) (is_among x offers) h.0) (once_without name offers h.1)

-- as many are left in the set as in the list
pub counted_less : (r t : Bool) (n m k l : ℕ) → n + (if r then 1 else 0) ≡ m → r ≡ t → m ≡ k → l + (if t then 1 else 0) ≡ k → n ≡ l
counted_less true true n m k l a e b d = omega (arith, a, b, d)
counted_less false false n m k l a e b d = omega (arith, a, b, d)
counted_less true false n m k l a e b d = absurd (let wrong : true ≡ false = e in cc)
counted_less false true n m k l a e b d = absurd (let wrong : false ≡ true = e in cc)

without_push : (names : List OfferName) (name : OfferName) (offers : List OfferName) →
    without_offers (names ++ name ∷ []) offers ≡ without_offer name (without_offers names offers)
without_push [] name offers = refl
without_push (x ∷ names) name offers = without_push names name (without_offer x offers)

-- one offer more is taken away
pub without_more : (names : List OfferName) (i : ℕ) (d : OfferName) (offers : List OfferName) → i < length names →
    without_offer (get_or names i d) (without_offers (take i names) offers) ≡ without_offers (take (i + 1) names) offers
without_more names i d offers within =
    sym (without_push (take i names) (get_or names i d) offers)
    ∙ ap (λ xs. without_offers xs offers) (sym (take-suc names i d within)) ∙ ap (λ k. without_offers (take k names) offers) (sym (add-one i))
