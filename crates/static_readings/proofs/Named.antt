-- The first process of a name, among one more and among several lists.
use Rattle.std.proofs.Common.{ℕ, ◌≡◌, ◌≤◌, ◌∙◌, refl, sym, ap, arith, length, drop, take, ◌-◌, get_or, List, [], ◌∷◌, ◌++◌, map, Bool, true, false, Option, Some, None, if◌then◌else◌, Bor}
use Rattle.std.specs.Prelude.{is_some, option_map}
use Rattle.std.specs.Char.{to_ascii_lowercase}
use Rattle.std.specs.List.{find}
use Rattle.std.specs.Option.{option_or}
use Rattle.std.specs.Str.{bytes_eq}
use Rattle.std.proofs.lemmas.List.{map-append, take_all}
use Rattle.std.proofs.lemmas.List.Folds.{find-append}
use Rattle.std.proofs.lemmas.Slice.Eq.{bytes_eq-Decides}
use Rattle.static_readings.specs.declared.heading.Heading.{Heading}
use Rattle.static_readings.specs.Named.{has_small_name, one_behind_other}
use Rattle.static_readings.specs.Sites as sites
use Rattle.static_readings.specs.Views.{heading_of}

-- one more is the first where it has what is asked for and none before it has

one_found : {A : Type 0} (p : A → Bool) (x : A) (b : Bool) → p x ≡ b → find p (x ∷ []) ≡ (if b then Some x else None)
one_found p x b e = ap (λ z. if z then Some x else None) e

behind : {A : Type 0} (p : A → Bool) (xs : List A) (x : A) (found : Option A) (b : Bool) → p x ≡ b → found ≡ find p xs
    → find p (xs ++ x ∷ []) ≡ option_or found (if b then Some x else None)
behind p xs x found b is e = find-append p xs (x ∷ []) ∙ ap (λ o. option_or o (find p (x ∷ []))) (sym e) ∙ ap (option_or found) (one_found p x b is)

put : {A : Type 0} (found : Option A) (x : A) (b : Bool) → (b ≡ true → found ≡ None) → (if b then Some x else found) ≡ option_or found (if b then Some x else None)
put None x true none = refl
put None x false none = refl
put (Some y) x true none = sym (ap (λ o. option_or o (Some x)) (none refl))
put (Some y) x false none = refl

stays : {A : Type 0} (found : Option A) (x : A) (b : Bool) → (b ≡ true → is_some found ≡ true) → found ≡ option_or found (if b then Some x else None)
stays None x true some = absurd (let h : false ≡ true = some refl in cc)
stays None x false some = refl
stays (Some y) x b some = refl

-- the same of processes by their names

abbrev view : Bor Heading → sites.Heading
view h = heading_of h.now

abbrev AreFirst : (List ℕ → Option (Bor Heading)) → List (Bor Heading) → Type 0
AreFirst first all = (name : List ℕ) → option_map view (first name) ≡ find (has_small_name name) (map view all)

is_small : (small name : List ℕ) (h : Bor Heading) → small ≡ map to_ascii_lowercase h.now.name → has_small_name name (view h) ≡ bytes_eq small name
is_small small name h is = ap (λ z. bytes_eq z name) (sym is)

pub not_first : (first : List ℕ → Option (Bor Heading)) (all more : List (Bor Heading)) (h : Bor Heading) (small : List ℕ)
    → small ≡ map to_ascii_lowercase h.now.name → more ≡ all ++ h ∷ [] → is_some (first small) ≡ true → AreFirst first all → AreFirst first more
not_first first all more h small is put there are name =
    stays (option_map view (first name)) (view h) (bytes_eq small name)
    (λ same. some (first name) (ap (λ z. is_some (first z)) (sym ((bytes_eq-Decides small name).0 same)) ∙ there))
    ∙ sym (ap (λ hs. find (has_small_name name) (map view hs)) put ∙ ap (find (has_small_name name)) (map-append view all (h ∷ []))
    ∙ behind (has_small_name name) (map view all) (view h) (option_map view (first name)) (bytes_eq small name) (is_small small name h is) (are name))
  where
    some : (o : Option (Bor Heading)) → is_some o ≡ true → is_some (option_map view o) ≡ true
    some None h = h
    some (Some x) h = refl

pub now_first : (first next : List ℕ → Option (Bor Heading)) (all more : List (Bor Heading)) (h : Bor Heading) (small : List ℕ)
    → small ≡ map to_ascii_lowercase h.now.name → more ≡ all ++ h ∷ [] → is_some (first small) ≡ false
    → ((name : List ℕ) → next name ≡ (if bytes_eq small name then Some h else first name)) → AreFirst first all → AreFirst next more
now_first first next all more h small is more_is none put_in are name =
    ap (option_map view) (put_in name) ∙ chosen (bytes_eq small name)
    ∙ put (option_map view (first name)) (view h) (bytes_eq small name)
    (λ same. empty (first name) (ap (λ z. is_some (first z)) (sym ((bytes_eq-Decides small name).0 same)) ∙ none))
    ∙ sym (ap (λ hs. find (has_small_name name) (map view hs)) more_is ∙ ap (find (has_small_name name)) (map-append view all (h ∷ []))
    ∙ behind (has_small_name name) (map view all) (view h) (option_map view (first name)) (bytes_eq small name) (is_small small name h is) (are name))
  where
    empty : (o : Option (Bor Heading)) → is_some o ≡ false → option_map view o ≡ None
    empty None h = refl
    empty (Some x) h = absurd (let k : true ≡ false = h in cc)

    chosen : (b : Bool) → option_map view (if b then Some h else first name) ≡ (if b then Some (view h) else option_map view (first name))
    chosen true = refl
    chosen false = refl

-- the first among several lists: in the first list, or behind it

pub among_first : (p : sites.Heading → Bool) (lists : List (Bor (List sites.Heading))) (l : Bor (List sites.Heading)) (x : sites.Heading)
    → 1 ≤ length lists → l ≡ get_or lists 0 l → find p l.now ≡ Some x → Some x ≡ find p (one_behind_other lists)
among_first p [] l x within at is = absurd (omega (arith, within))
among_first p (m ∷ ms) l x within at is =
    sym (find-append p m.now (one_behind_other ms) ∙ ap (λ o. option_or o (find p (one_behind_other ms))) (ap (λ k. find p k.now) (sym at) ∙ is))

pub among_others : (p : sites.Heading → Bool) (lists : List (Bor (List sites.Heading))) (l : Bor (List sites.Heading)) (found : Option sites.Heading)
    → 1 ≤ length lists → l ≡ get_or lists 0 l → find p l.now ≡ None → found ≡ find p (one_behind_other (take (length lists - 1) (drop 1 lists)))
    → found ≡ find p (one_behind_other lists)
among_others p [] l found within at none is = absurd (omega (arith, within))
among_others p (m ∷ ms) l found within at none is =
    is ∙ ap (λ ks. find p (one_behind_other ks)) (take_all (length (m ∷ ms) - 1) ms (omega arith)) ∙ sym (find-append p m.now (one_behind_other ms) ∙ ap (λ o. option_or o (find p (one_behind_other ms))) (ap (λ k. find p k.now) (sym at) ∙ none))
