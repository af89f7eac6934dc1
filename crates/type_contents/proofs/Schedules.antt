-- Types that are made one after another.
use Rattle.std.proofs.Common.{◌≡◌, ◌∙◌, refl, sym, ap, subst, List, [], ◌∷◌, ◌++◌, ℕ, zero, suc, ◌+◌, ◌<◌, ◌≤◌, length, map, take, set, get_or, Option, None, Some, is_some, option_map, true, ◌||◌, ◌&&◌, nat_le}
use Rattle.std.specs.List.{list_all, slice_index_or}
use Rattle.std.proofs.lemmas.List.{get_or-map, length-map, map-append}
use Rattle.std.proofs.lemmas.Option.{none-some}
use Rattle.spec_core.proofs.Lists.{take_next}
use Rattle.lotos_ast.specs.declared.types.TypeDef.{TypeDef}
use Rattle.type_contents.specs.declared.numbers.Numbers.{Numbers}
use Rattle.type_contents.specs.Items.{Item}
use Rattle.type_contents.specs.Uses.{links}
use Rattle.type_contents.specs.Contents.{Content, no_content, made_from, contents}
use Rattle.type_contents.specs.Settled.{is_ready, are_ready, known, IsSettled}
use Rattle.type_contents.specs.Views.{content_at, made_at, AreSettled, IsMadeWithin, AreMadeWithin}
use Rattle.type_contents.proofs.Tables.{grown_length}
use Rattle.type_contents.proofs.Made.{made_stays, made_within_more}
use Rattle.type_contents.proofs.Looks.{made_agree}
use Rattle.type_contents.proofs.Settled.{settle_one, all_settled}

-- what has been found, through a function

some_read : {A B : Type 0} (f : A → B) (found : List (Option A)) (k : ℕ) → is_some (slice_index_or (map (option_map f) found) k None) ≡ is_some (slice_index_or found k None)
some_read f [] k = refl
some_read f (None ∷ xs) zero = refl
some_read f (Some x ∷ xs) zero = refl
some_read f (x ∷ xs) (suc k) = some_read f xs k

pub ready_through : {A B : Type 0} (f : A → B) (found : List (Option A)) (used : List ℕ) → are_ready (map (option_map f) found) used ≡ are_ready found used
ready_through f found [] = refl
ready_through f found (k ∷ ks) =
    ap (λ z. (nat_le z k || is_some (slice_index_or (map (option_map f) found) k None)) && are_ready (map (option_map f) found) ks) (length-map found (option_map f))
    ∙ ap (λ z. (nat_le (length found) k || z) && are_ready (map (option_map f) found) ks) (some_read f found k)
    ∙ ap (λ z. is_ready found k && z) (ready_through f found ks)

pub set_through : {A B : Type 0} (f : A → B) (found : List (Option A)) (k : ℕ) (x : A) → map (option_map f) (set found k (Some x)) ≡ set (map (option_map f) found) k (Some (f x))
set_through f [] k x = refl
set_through f (y ∷ ys) zero x = refl
set_through f (y ∷ ys) (suc k) x = ap (λ z. option_map f y ∷ z) (set_through f ys k x)

pub each_through : {A B : Type 0} (f : A → B) (found : List (Option A)) → list_all is_some (map (option_map f) found) ≡ list_all is_some found
each_through f [] = refl
each_through f (None ∷ xs) = refl
each_through f (Some x ∷ xs) = each_through f xs

-- of types

known_made : (t : List Item) (made : List (Option Numbers)) → known no_content (map (option_map (content_at t)) made) ≡ map (made_at t) made
known_made t [] = refl
known_made t (None ∷ ms) = ap (λ z. no_content ∷ z) (known_made t ms)
known_made t (Some n ∷ ms) = ap (λ z. content_at t n ∷ z) (known_made t ms)

some_of : List Item → Option Numbers → Option Content
some_of t m = option_map (content_at t) m

found_stays : (t u : List Item) (made : List (Option Numbers)) → take (length t) u ≡ t → AreMadeWithin (length t) made → map (option_map (content_at u)) made ≡ map (option_map (content_at t)) made
found_stays t u [] e h = refl
found_stays t u (None ∷ ms) e h = ap (λ z. None ∷ z) (found_stays t u ms e h.1)
found_stays t u (Some n ∷ ms) e h =
    ap (λ z. Some z ∷ map (option_map (content_at u)) ms) (ap (λ l. get_or l 0 no_content) (made_stays t u (Some n ∷ []) e (h.0, tt))) ∙ ap (λ z. Some (content_at t n) ∷ z) (found_stays t u ms e h.1)

pub within_set : (bound : ℕ) (made : List (Option Numbers)) (k : ℕ) (m : Option Numbers) → AreMadeWithin bound made → IsMadeWithin bound m → AreMadeWithin bound (set made k m)
within_set bound [] k m h w = tt
within_set bound (x ∷ xs) zero m h w = (w, h.1)
within_set bound (x ∷ xs) (suc k) m h w = (h.0, within_set bound xs k m h.1 w)

pub within_set_grown : (t u : List Item) (made : List (Option Numbers)) (k : ℕ) (m : Option Numbers) → take (length t) u ≡ t → AreMadeWithin (length t) made → IsMadeWithin (length u) m → AreMadeWithin (length u) (set made k m)
within_set_grown t u made k m e h w = within_set (length u) made k m (made_within_more (length t) (length u) made (grown_length t u e) h) w

pub one_settled : (types : List TypeDef) (t u : List Item) (made : List (Option Numbers)) (n k : ℕ) (one : Numbers) (d : TypeDef)
    → AreMadeWithin (length t) made → take (length t) u ≡ t → length made ≡ length types → k < length types → d ≡ get_or types k d → content_at u one ≡ made_from types (map (made_at t) made) d
    → are_ready made (slice_index_or (map (links types) types) k []) ≡ true → AreSettled types t made n → AreSettled types u (set made k (Some one)) (suc n)
one_settled types t u made n k one d within grown same less at is ready settled =
    subst (λ f. IsSettled no_content (made_from types) types f (suc n)) (sym (set_through (content_at u) made k one))
    (settle_one no_content (made_from types) types (map (option_map (content_at u)) made) n k d (content_at u one) (links types d) (λ v w h. made_agree types d v w h)
    (subst (λ f. IsSettled no_content (made_from types) types f n) (sym (found_stays t u made grown within)) settled)
    (length-map made (option_map (content_at u)) ∙ same) less at
    (ready_through (content_at u) made (links types d) ∙ ap (are_ready made) (sym (get_or-map (links types) types k d [] less ∙ ap (links types) (sym at))) ∙ ready)
    (is ∙ ap (λ z. made_from types z d) (sym (known_made u made ∙ made_stays t u made grown within))))

pub all_made : (types : List TypeDef) (t : List Item) (made : List (Option Numbers)) (n : ℕ) → AreSettled types t made n → n ≤ length types → length made ≡ length types → list_all is_some made ≡ true → map (made_at t) made ≡ contents types
all_made types t made n settled le same each =
    sym (known_made t made) ∙ all_settled no_content (made_from types) types (map (option_map (content_at t)) made) n settled le (length-map made (option_map (content_at t)) ∙ same) (each_through (content_at t) made ∙ each)

-- nothing is made yet

nothing_read : {A : Type 0} (types : List TypeDef) (f : Numbers → A) (k : ℕ) → slice_index_or (map (option_map f) (map (λ _. None) types)) k None ≡ None
nothing_read [] f k = refl
nothing_read (d ∷ ds) f zero = refl
nothing_read (d ∷ ds) f (suc k) = nothing_read ds f k

pub none_settled : (types : List TypeDef) (t : List Item) (made : List (Option Numbers)) → made ≡ map (λ _. None) types → AreSettled types t made 0
none_settled types t made is k x at m le = absurd (none-some x (sym (nothing_read types (content_at t) k) ∙ sym (ap (λ z. slice_index_or (map (option_map (content_at t)) z) k None) is) ∙ at))

nothing_within : (bound : ℕ) (types : List TypeDef) → AreMadeWithin bound (map (λ _. None) types)
nothing_within bound [] = tt
nothing_within bound (d ∷ ds) = ((tt, tt), nothing_within bound ds)

pub none_within : (bound : ℕ) (types : List TypeDef) (made : List (Option Numbers)) → made ≡ map (λ _. None) types → AreMadeWithin bound made
none_within bound types made is = subst (AreMadeWithin bound) (sym is) (nothing_within bound types)

nothing_made_at : (t : List Item) (types : List TypeDef) → map (made_at t) (map (λ _. None) types) ≡ map (λ _. no_content) types
nothing_made_at t [] = refl
nothing_made_at t (d ∷ ds) = ap (λ z. no_content ∷ z) (nothing_made_at t ds)

pub none_made_at : (t : List Item) (types : List TypeDef) (made : List (Option Numbers)) → made ≡ map (λ _. None) types → map (made_at t) made ≡ map (λ _. no_content) types
none_made_at t types made is = ap (map (made_at t)) is ∙ nothing_made_at t types

-- one more in a round

pub round_next : (types : List TypeDef) (s t u : List Item) (made next then : List (Option Numbers)) (one : Numbers) (i : ℕ) (d : TypeDef)
    → take (length s) t ≡ s → take (length t) u ≡ t → AreMadeWithin (length s) made → AreMadeWithin (length t) next → i < length types → d ≡ get_or types i d
    → map (made_at t) next ≡ map (made_from types (map (made_at s) made)) (take i types) → then ≡ next ++ Some one ∷ [] → content_at u one ≡ made_from types (map (made_at t) made) d
    → map (made_at u) then ≡ map (made_from types (map (made_at s) made)) (take (i + 1) types)
round_next types s t u made next then one i d grown more within fits less at before is here =
    ap (map (made_at u)) is ∙ map-append (made_at u) next (Some one ∷ []) ∙ ap (λ z. z ++ content_at u one ∷ []) (made_stays t u next more fits ∙ before)
    ∙ ap (λ z. map (made_from types (map (made_at s) made)) (take i types) ++ z ∷ []) (here ∙ ap (λ z. made_from types z d) (made_stays s t made grown within))
    ∙ sym (ap (map (made_from types (map (made_at s) made))) (take_next types i d less at) ∙ map-append (made_from types (map (made_at s) made)) (take i types) (d ∷ []))

one_behind : (bound : ℕ) (next : List (Option Numbers)) (m : Option Numbers) → AreMadeWithin bound next → IsMadeWithin bound m → AreMadeWithin bound (next ++ m ∷ [])
one_behind bound [] m h w = (w, tt)
one_behind bound (x ∷ xs) m h w = (h.0, one_behind bound xs m h.1 w)

pub within_behind : (t u : List Item) (next then : List (Option Numbers)) (m : Option Numbers) → take (length t) u ≡ t → AreMadeWithin (length t) next → IsMadeWithin (length u) m → then ≡ next ++ m ∷ [] → AreMadeWithin (length u) then
within_behind t u next then m e h w is = subst (AreMadeWithin (length u)) (sym is) (one_behind (length u) next m (made_within_more (length t) (length u) next (grown_length t u e) h) w)
