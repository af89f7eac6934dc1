-- Items by their numbers, in a table that grows.
use Rattle.std.proofs.Common.{◌≡◌, ◌∙◌, refl, sym, ap, List, [], ◌∷◌, ◌++◌, ℕ, ◌≤◌, length, take, drop, get_or, arith, Some, slice_get}
use Rattle.std.proofs.lemmas.List.{get_or-take, map-append}
use Rattle.std.proofs.lemmas.Option.{get_or_from_slice_get, slice_get_within}
use Rattle.type_contents.specs.Items.{Item}
use Rattle.type_contents.specs.Views.{items_at, no_item, AreWithin}

pub within_joined : (m : ℕ) (ns ms : List ℕ) → AreWithin m ns → AreWithin m ms → AreWithin m (ns ++ ms)
within_joined m [] ms h k = k
within_joined m (n ∷ ns) ms h k = (h.0, within_joined m ns ms h.1 k)

pub within_more : (m k : ℕ) (ns : List ℕ) → m ≤ k → AreWithin m ns → AreWithin k ns
within_more m k [] le h = tt
within_more m k (n ∷ ns) le h = (grind (arith, h.0, le), within_more m k ns le h.1)

-- the second begins with the first

pub grown_length : {A : Type 0} (t u : List A) → take (length t) u ≡ t → length t ≤ length u
grown_length [] u e = grind arith
grown_length (x ∷ xs) [] e = absurd (cc)
grown_length (x ∷ xs) (y ∷ ys) e = let h : length xs ≤ length ys = grown_length xs ys (ap (drop 1) e) in omega (arith, h)

pub grown_more : {A : Type 0} (t u v : List A) → take (length t) u ≡ t → take (length u) v ≡ u → take (length t) v ≡ t
grown_more [] u v e f = refl
grown_more (x ∷ xs) [] v e f = absurd (cc)
grown_more (x ∷ xs) (y ∷ ys) [] e f = absurd (cc)
grown_more (x ∷ xs) (y ∷ ys) (z ∷ zs) e f =
    ap (λ w. w ∷ take (length xs) zs) (ap (λ l. get_or l 0 x) f ∙ ap (λ l. get_or l 0 x) e) ∙ ap (λ l. x ∷ l) (grown_more xs ys zs (ap (drop 1) e) (ap (drop 1) f))

pub items_stay : (t u : List Item) (ns : List ℕ) → take (length t) u ≡ t → AreWithin (length t) ns → items_at u ns ≡ items_at t ns
items_stay t u [] e h = refl
items_stay t u (n ∷ ns) e h =
    ap (λ z. z ∷ items_at u ns) (sym (get_or-take (length t) u n no_item h.0) ∙ ap (λ l. get_or l n no_item) e) ∙ ap (λ l. get_or t n no_item ∷ l) (items_stay t u ns e h.1)

pub items_next : (t u : List Item) (ns : List ℕ) (n : ℕ) (x : Item) → take (length t) u ≡ t → AreWithin (length t) ns → slice_get u n ≡ Some x → items_at u (ns ++ n ∷ []) ≡ items_at t ns ++ x ∷ []
items_next t u ns n x e h at =
    map-append (λ k. get_or u k no_item) ns (n ∷ []) ∙ ap (λ l. l ++ get_or u n no_item ∷ []) (items_stay t u ns e h) ∙ ap (λ z. items_at t ns ++ z ∷ []) (get_or_from_slice_get u n x no_item at)

pub within_next : (t u : List Item) (ns : List ℕ) (n : ℕ) (x : Item) → take (length t) u ≡ t → AreWithin (length t) ns → slice_get u n ≡ Some x → AreWithin (length u) (ns ++ n ∷ [])
within_next t u ns n x e h at = within_joined (length u) ns (n ∷ []) (within_more (length t) (length u) ns (grown_length t u e) h) (slice_get_within u n x at, tt)
