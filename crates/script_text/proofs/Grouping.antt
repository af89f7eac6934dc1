-- One wish more, by client.
use Rattle.std.proofs.Common.{ℕ, zero, suc, ◌≡◌, ◌≢◌, inl, inr, ◌≤◌, ◌<◌, ◌+◌, ◌-◌, ◌==◌, List, [], ◌∷◌, ◌++◌, Bool, true, false, map, length, get_or, set, replicate, refl, sym, ap, subst, ◌∙◌, arith, append_assoc, length-append, if◌then◌else◌}
use Rattle.std.specs.Prelude.{max}
use Rattle.std.proofs.lemmas.Bool.Decides.{nat_tests}
use Rattle.std.proofs.lemmas.Bool.{cases_lt, cases_eq}
use Rattle.std.proofs.lemmas.List.{append-nil, length-set, get_or_append_left, get_or_push, get_or-set_same, get_or-set_other, ext_get_or, replicate_more, map-append, map-set, length-map}
use Rattle.script_text.specs.Views.{client_wish_of}
use Rattle.std.specs.Prelude.{Vec}
use Rattle.std.specs.declared.alloc.Global.{Global}
use Rattle.script_text.specs.declared.wish.Wish.{Wish}
use Rattle.spec_core.specs.Lists.{Each}
use Rattle.spec_core.proofs.Lists.{each_push}
use Rattle.script_text.specs.Scripts.{wishes_of, greatest_client, wishes_up_to, by_client}
use Rattle.script_text.specs.Wishes.{Wished, ClientWish, wished_of, all_wished_of}

-- a wish more is one of its client
wishes_same : (k : ℕ) (said : List ClientWish) (x : ClientWish) → x.client ≡ k → wishes_of k (said ++ x ∷ []) ≡ wishes_of k said ++ x.wish ∷ []
wishes_same k [] x e = let t : (x.client == k) ≡ true = grind (arith, nat_tests) in ap (λ (b : Bool). if b then x.wish ∷ [] else []) t
wishes_same k (y ∷ ys) x e =
    ap (λ ws. if y.client == k then y.wish ∷ ws else ws) (wishes_same k ys x e) ∙ out (y.client == k)
  where
    out : (b : Bool) → (if b then y.wish ∷ (wishes_of k ys ++ x.wish ∷ []) else wishes_of k ys ++ x.wish ∷ [])
        ≡ (if b then y.wish ∷ wishes_of k ys else wishes_of k ys) ++ x.wish ∷ []
    out true = refl
    out false = refl

-- and of no other
wishes_other : (k : ℕ) (said : List ClientWish) (x : ClientWish) → x.client ≢ k → wishes_of k (said ++ x ∷ []) ≡ wishes_of k said
wishes_other k [] x e = let t : (x.client == k) ≡ false = grind (arith, nat_tests) in ap (λ (b : Bool). if b then x.wish ∷ [] else []) t
wishes_other k (y ∷ ys) x e = ap (λ ws. if y.client == k then y.wish ∷ ws else ws) (wishes_other k ys x e)

-- above the greatest number there are no wishes
wishes_none : (k : ℕ) (said : List ClientWish) → greatest_client said < k → wishes_of k said ≡ []
wishes_none k [] h = refl
wishes_none k (y ∷ ys) h =
    let t : (y.client == k) ≡ false = grind (arith, nat_tests) in
    ap (λ (b : Bool). if b then y.wish ∷ wishes_of k ys else wishes_of k ys) t ∙ wishes_none k ys (omega (arith, h))

up_to_length : (n : ℕ) (said : List ClientWish) → length (wishes_up_to n said) ≡ n
up_to_length zero said = refl
up_to_length (suc n) said = length-append (wishes_up_to n said) (wishes_of (suc n) said ∷ []) ∙ (let h = up_to_length n said in omega (arith, h))

abbrev pub no_wishes : List Wished
no_wishes = []

more_none : (d : ℕ) → replicate d no_wishes ++ no_wishes ∷ [] ≡ replicate (suc d) no_wishes
more_none zero = refl
more_none (suc d) = ap (λ r. no_wishes ∷ r) (more_none d)

-- clients above the greatest number have no wishes
up_to_more : (d : ℕ) (said : List ClientWish) →
    wishes_up_to (greatest_client said + d) said ≡ by_client said ++ replicate d []
up_to_more zero said = let e : greatest_client said + 0 ≡ greatest_client said = omega arith in ap (λ n. wishes_up_to n said) e ∙ sym (append-nil (by_client said))
up_to_more (suc d) said =
    let e : greatest_client said + suc d ≡ suc (greatest_client said + d) = omega arith in
    let n : wishes_of (suc (greatest_client said + d)) said ≡ [] = wishes_none (suc (greatest_client said + d)) said (omega arith) in
    ap (λ m. wishes_up_to m said) e
    ∙ ap (λ ws. wishes_up_to (greatest_client said + d) said ++ ws ∷ []) n
    ∙ ap (λ all. all ++ [] ∷ []) (up_to_more d said)
    ∙ append_assoc (by_client said) (replicate d []) ([] ∷ [])
    ∙ ap (λ r. by_client said ++ r) (more_none d)

greatest_more : (said : List ClientWish) (x : ClientWish) → greatest_client (said ++ x ∷ []) ≡ max (greatest_client said) x.client
greatest_more [] x = omega arith
greatest_more (y ∷ ys) x = let h : greatest_client (ys ++ x ∷ []) ≡ max (greatest_client ys) x.client = greatest_more ys x in omega (arith, h)

-- the wishes of a client among those of all
up_to_at : (n : ℕ) (said : List ClientWish) (j : ℕ) → j < n → get_or (wishes_up_to n said) j [] ≡ wishes_of (suc j) said
up_to_at zero said j h = absurd (omega (arith, h))
up_to_at (suc n) said j h = elim (cases_lt j n) [
  | inl l ↦ get_or_append_left (wishes_up_to n said) (wishes_of (suc n) said ∷ []) [] j (subst (λ m. j < m) (sym (up_to_length n said)) l) ∙ up_to_at n said j l
  | inr g ↦ let s : j ≡ n = omega (arith, h, g) in
      get_or_push (wishes_up_to n said) (wishes_of (suc n) said) [] j (up_to_length n said ∙ sym s) ∙ ap (λ m. wishes_of (suc m) said) (sym s)
]

-- the client's own list grows, and no other
at_each : (n : ℕ) (said : List ClientWish) (x : ClientWish) (j : ℕ) → x.client ≡ suc j → j < n → (i : ℕ) → i < n →
    get_or (wishes_up_to n (said ++ x ∷ [])) i []
    ≡ get_or (set (wishes_up_to n said) j (get_or (wishes_up_to n said) j [] ++ x.wish ∷ [])) i []
at_each n said x j e below i h = elim (cases_eq i j) [
  | inl s ↦ up_to_at n (said ++ x ∷ []) i h ∙ wishes_same (suc i) said x (e ∙ ap suc (sym s))
      ∙ ap (λ m. wishes_of (suc m) said ++ x.wish ∷ []) s ∙ ap (λ ws. ws ++ x.wish ∷ []) (sym (up_to_at n said j below))
      ∙ sym (get_or-set_same (wishes_up_to n said) j (get_or (wishes_up_to n said) j [] ++ x.wish ∷ []) [] (subst (λ m. j < m) (sym (up_to_length n said)) below))
      ∙ ap (λ m. get_or (set (wishes_up_to n said) j (get_or (wishes_up_to n said) j [] ++ x.wish ∷ [])) m []) (sym s)
  | inr o ↦ up_to_at n (said ++ x ∷ []) i h ∙ wishes_other (suc i) said x (λ k. o (let q : suc j ≡ suc i = sym e ∙ k in omega (arith, q)))
      ∙ sym (up_to_at n said i h)
      ∙ sym (get_or-set_other (wishes_up_to n said) j i (get_or (wishes_up_to n said) j [] ++ x.wish ∷ []) [] o)
]

set_one : (n : ℕ) (said : List ClientWish) (x : ClientWish) (j : ℕ) → x.client ≡ suc j → j < n →
    wishes_up_to n (said ++ x ∷ []) ≡ set (wishes_up_to n said) j (get_or (wishes_up_to n said) j [] ++ x.wish ∷ [])
set_one n said x j e h =
    let l : length (wishes_up_to n (said ++ x ∷ [])) ≡ n = up_to_length n (said ++ x ∷ []) in
    ext_get_or [] (wishes_up_to n (said ++ x ∷ [])) (set (wishes_up_to n said) j (get_or (wishes_up_to n said) j [] ++ x.wish ∷ []))
    (l ∙ sym (length-set (wishes_up_to n said) j (get_or (wishes_up_to n said) j [] ++ x.wish ∷ []) ∙ up_to_length n said))
    (λ i k. at_each n said x j e h i (subst (λ m. i < m) l k))

-- a wish more, put behind those of its client, with room for all clients up to it
pub one_wish_more : (before : List ClientWish) (x : ClientWish) (old mid new : List (List Wished)) (place had : ℕ) →
    0 < x.client → place ≡ x.client - 1 → had ≡ length old → mid ≡ old ++ replicate (x.client - had) [] →
    new ≡ set mid place (get_or mid place [] ++ x.wish ∷ []) → old ≡ by_client before → new ≡ by_client (before ++ x ∷ [])
one_wish_more before x old mid new place had some at len room put is =
    let n : ℕ = greatest_client before + (x.client - greatest_client before) in
    let g : had ≡ greatest_client before = len ∙ ap length is ∙ up_to_length (greatest_client before) before in
    let e : mid ≡ wishes_up_to n before =
    room ∙ ap (λ m. old ++ replicate (x.client - m) []) g ∙ ap (λ z. z ++ replicate (x.client - greatest_client before) []) is
    ∙ sym (up_to_more (x.client - greatest_client before) before) in
    let m : greatest_client (before ++ x ∷ []) ≡ n = let h = greatest_more before x in omega (arith, h) in
    let c : x.client ≡ suc place = omega (arith, at, some) in
    put ∙ ap (λ z. set z place (get_or z place [] ++ x.wish ∷ [])) e
    ∙ sym (set_one n before x place c (omega (arith, c)))
    ∙ ap (λ k. wishes_up_to k (before ++ x ∷ [])) (sym m)

-- nothing more
pub no_wish_more : (before : List ClientWish) (all : List (List Wished)) → all ≡ by_client before → all ≡ by_client (before ++ [])
no_wish_more before all is = is ∙ ap by_client (sym (append-nil before))

-- at most 64 clients
at_most : (said : List ClientWish) → Each (λ x. x.client ≤ 64) said → greatest_client said ≤ 64
at_most [] h = omega arith
at_most (x ∷ xs) h = let a = h.0 in let b = at_most xs h.1 in omega (arith, a, b)

pub few_clients : (said : List ClientWish) → Each (λ x. x.client ≤ 64) said → length (by_client said) ≤ 64
few_clients said h = subst (λ n. n ≤ 64) (sym (up_to_length (greatest_client said) said)) (at_most said h)

-- what holds of each wish holds of each client's
of_one : (P : Wished → Type 0) (k : ℕ) (said : List ClientWish) → Each (λ x. P x.wish) said → Each P (wishes_of k said)
of_one P k [] h = tt
of_one P k (x ∷ xs) h = put (x.client == k) (of_one P k xs h.1)
  where
    put : (b : Bool) → Each P (wishes_of k xs) → Each P (if b then x.wish ∷ wishes_of k xs else wishes_of k xs)
    put true g = (h.0, g)
    put false g = g

up_to_each : (P : Wished → Type 0) (n : ℕ) (said : List ClientWish) → Each (λ x. P x.wish) said → Each (Each P) (wishes_up_to n said)
up_to_each P zero said h = tt
up_to_each P (suc n) said h = each_push (Each P) (wishes_up_to n said) (wishes_of (suc n) said) (up_to_each P n said h) (of_one P (suc n) said h)

pub of_each : (P : Wished → Type 0) (said : List ClientWish) → Each (λ x. P x.wish) said → Each (Each P) (by_client said)
of_each P said h = up_to_each P (greatest_client said) said h

at_map : {A B : Type 0} (f : A → B) (xs : List A) (i : ℕ) (v : A) (d : B) → i < length xs → v ≡ get_or xs i v → get_or (map f xs) i d ≡ f v
at_map f [] i v d h e = absurd (omega (arith, h))
at_map f (x ∷ xs) zero v d h e = ap f (sym e)
at_map f (x ∷ xs) (suc i) v d h e = at_map f xs i v d (omega (arith, h)) e

-- a wish pushed behind those of one client
pub pushed : (old new : List (Vec Wish Global)) (place : ℕ) (v w : Vec Wish Global) (x : Wish) → place < length old → v ≡ get_or old place v →
    w.items ≡ v.items ++ x ∷ [] → new ≡ set old place w →
    map all_wished_of new ≡ set (map all_wished_of old) place (get_or (map all_wished_of old) place [] ++ wished_of x ∷ [])
pushed old new place v w x h e f g =
    let r : all_wished_of w ≡ get_or (map all_wished_of old) place [] ++ wished_of x ∷ [] =
    ap (map wished_of) f ∙ map-append wished_of v.items (x ∷ [])
    ∙ ap (λ ws. ws ++ wished_of x ∷ []) (sym (at_map all_wished_of old place v [] h e)) in
    ap (map all_wished_of) g ∙ map-set all_wished_of old place w ∙ ap (λ z. set (map all_wished_of old) place z) r

-- the same of the program's lists
pub wish_added : (before : List ClientWish) (client : ℕ) (wish : Wish) (old mid new : List (Vec Wish Global)) (had : ℕ) → 0 < client →
    had ≡ length old → map all_wished_of mid ≡ map all_wished_of old ++ replicate (client - had) [] →
    map all_wished_of new ≡ set (map all_wished_of mid) (client - 1) (get_or (map all_wished_of mid) (client - 1) [] ++ wished_of wish ∷ []) →
    map all_wished_of old ≡ by_client before →
    map all_wished_of new ≡ by_client (before ++ client_wish_of (client, wish) ∷ [])
wish_added before client wish old mid new had some len room put is =
    one_wish_more before (client_wish_of (client, wish)) (map all_wished_of old) (map all_wished_of mid) (map all_wished_of new) (client - 1) had
    some refl (len ∙ sym (length-map old all_wished_of)) room put is

-- one client more without wishes
pub room_next : (old new have : List (Vec Wish Global)) (v : Vec Wish Global) (n : ℕ) →
    map all_wished_of old ≡ map all_wished_of have ++ replicate n no_wishes → new ≡ old ++ v ∷ [] → v.items ≡ [] →
    map all_wished_of new ≡ map all_wished_of have ++ replicate (n + 1) no_wishes
room_next old new have v n h e f =
    let r : all_wished_of v ≡ no_wishes = ap (map wished_of) f in
    ap (map all_wished_of) e ∙ map-append all_wished_of old (v ∷ [])
    ∙ ap (λ z. z ++ all_wished_of v ∷ []) h ∙ ap (λ w. (map all_wished_of have ++ replicate n no_wishes) ++ w ∷ []) r
    ∙ append_assoc (map all_wished_of have) (replicate n no_wishes) (no_wishes ∷ [])
    ∙ ap (λ z. map all_wished_of have ++ z) (replicate_more n no_wishes)

pub room_begin : (have : List (List Wished)) → have ≡ have ++ replicate 0 no_wishes
room_begin have = sym (append-nil have)

pub ruleset room_steps = (room_begin, room_next)
