-- One more element of a list that a loop goes over.
use Rattle.std.proofs.Common.{ℕ, zero, suc, ◌≡◌, ◌<◌, ◌≤◌, ◌+◌, ◌==◌, List, [], ◌∷◌, ◌++◌, length, map, take, drop, get_or, refl, ap, sym, subst, ◌∙◌, arith, add-one, append_assoc, Bool, true, false, if◌then◌else◌}
use Rattle.spec_core.specs.Terms.{TermTree}
use Rattle.std.specs.List.{slice_index_or}
use Rattle.sort_overloads.specs.declared.table.Pick.{Pick}
use Rattle.sort_overloads.specs.declared.table.Reading.{Reading}
use Rattle.sort_overloads.specs.Listed.{Typed, two, those, of_sort, extended, argument_lists}
use Rattle.sort_overloads.specs.Tables.{with_last, picked, list_of}
use Rattle.std.specs.Prelude.{Vec}
use Rattle.std.specs.declared.alloc.Global.{Global}
use Rattle.std.proofs.Math.Seq.{drop-cons, take-suc}
use Rattle.std.proofs.lemmas.List.{drop_all, map-append}
use Rattle.spec_core.proofs.Lists.{take_next}
use Rattle.sort_overloads.proofs.Two.{those_join, two_more, two_twice, argument_lists-same, all-stand-themselves}

pub dropped-next : {A : Type 0} (xs : List A) (i : ℕ) (x : A) → i < length xs → x ≡ get_or xs i x → drop i xs ≡ x ∷ drop (i + 1) xs
dropped-next xs i x within at = drop-cons xs i x within ∙ ap (λ y. y ∷ drop (suc i) xs) (sym at) ∙ ap (λ k. x ∷ drop k xs) (sym (add-one i))

pub map-through : {A B C : Type 0} (g : B → C) (f : A → B) (xs : List A) → map g (map f xs) ≡ map (λ x. g (f x)) xs
map-through g f [] = refl
map-through g f (x ∷ xs) = ap (λ zs. g (f x) ∷ zs) (map-through g f xs)

pub of_sort-join : (sort : ℕ) (xs ys : List Typed) → of_sort sort (xs ++ ys) ≡ of_sort sort xs ++ of_sort sort ys
of_sort-join sort [] ys = refl
of_sort-join sort (x ∷ xs) ys = step (x.sort == sort) (of_sort-join sort xs ys)
  where
    step : (b : Bool) → of_sort sort (xs ++ ys) ≡ of_sort sort xs ++ of_sort sort ys → (if b then x.term ∷ of_sort sort (xs ++ ys) else of_sort sort (xs ++ ys)) ≡ (if b then x.term ∷ of_sort sort xs else of_sort sort xs) ++ of_sort sort ys
    step true h = ap (λ zs. x.term ∷ zs) h
    step false h = h

extended-join : (ls ks : List (List TermTree)) (ts : List TermTree) → extended (ls ++ ks) ts ≡ extended ls ts ++ extended ks ts
extended-join [] ks ts = refl
extended-join (l ∷ ls) ks ts = ap (λ z. map (with_last l) ts ++ z) (extended-join ls ks ts) ∙ sym (append_assoc (map (with_last l) ts) (extended ls ts) (extended ks ts))

-- a further term that is put behind a list
pub longer-added : {A : Type 0} (view : A → TermTree) (now before after : List (List TermTree)) (l : List TermTree) (xs : List A) (i : ℕ) (d : A) → i < length xs →
    now ≡ two (before ++ map (with_last l) (map view (take i xs))) → after ≡ two (now ++ (with_last l (view (get_or xs i d)) ∷ [])) → after ≡ two (before ++ map (with_last l) (map view (take (i + 1) xs)))
longer-added view now before after l xs i d within a b =
    let x = get_or xs i d in
    let more = with_last l (view x) ∷ [] in
    let some = map (with_last l) (map view (take i xs)) in
    let e : map (with_last l) (map view (take (i + 1) xs)) ≡ some ++ more =
    ap (λ k. map (with_last l) (map view k)) (ap (λ k. take k xs) (add-one i) ∙ take-suc xs i d within)
    ∙ ap (map (with_last l)) (map-append view (take i xs) (x ∷ []))
    ∙ map-append (with_last l) (map view (take i xs)) (view x ∷ []) in
    b ∙ ap (λ z. two (z ++ more)) a ∙ two_more (before ++ some) more ∙ ap two (append_assoc before some more) ∙ ap (λ z. two (before ++ z)) (sym e)

-- one more list, where there weren't two
pub one-added : (tables : List (List Typed)) (before now : List (Vec Pick Global)) (list : Vec Pick Global) (old : List Pick) (pick : Pick) → length before < 2 → list.items ≡ old ++ (pick ∷ []) → now ≡ before ++ (list ∷ []) →
    map (list_of tables) now ≡ two (map (list_of tables) before ++ (with_last (map (picked tables) old) (picked tables pick) ∷ []))
one-added tables before now list old pick few l n =
    let e : list_of tables list ≡ with_last (map (picked tables) old) (picked tables pick) = ap (map (picked tables)) l ∙ map-append (picked tables) old (pick ∷ []) in
    ap (map (list_of tables)) n ∙ map-append (list_of tables) before (list ∷ []) ∙ ap (λ z. map (list_of tables) before ++ (z ∷ [])) e
    ∙ still before few
  where
    still : (xs : List (Vec Pick Global)) → length xs < 2 → map (list_of tables) xs ++ (with_last (map (picked tables) old) (picked tables pick) ∷ []) ≡ two (map (list_of tables) xs ++ (with_last (map (picked tables) old) (picked tables pick) ∷ []))
    still [] h = refl
    still (x ∷ []) h = refl
    still (x ∷ y ∷ xs) h = absurd (omega arith)

-- one more reading of a list, which is of the sort or not
pub picks-next : (f : Pick → TermTree) (view : Reading → Typed) (sort : ℕ) (xs : List Reading) (i : ℕ) (x : Reading) (before now : List Pick) (wanted : Bool) (pick : Pick) → i < length xs → x ≡ get_or xs i x → wanted ≡ ((view x).sort == sort) → f pick ≡ (view x).term →
    map f before ≡ of_sort sort (map view (take i xs)) → now ≡ before ++ (if wanted then pick ∷ [] else []) → map f now ≡ of_sort sort (map view (take (i + 1) xs))
picks-next f view sort xs i x before now wanted pick within at w term h n =
    ap (map f) n ∙ map-append f before (if wanted then pick ∷ [] else []) ∙ ap (λ z. z ++ map f (if wanted then pick ∷ [] else [])) h
    ∙ ap (λ z. of_sort sort (map view (take i xs)) ++ z) (one wanted w)
    ∙ sym (ap (λ k. of_sort sort (map view k)) (take_next xs i x within at) ∙ ap (of_sort sort) (map-append view (take i xs) (x ∷ [])) ∙ of_sort-join sort (map view (take i xs)) (view x ∷ []))
  where
    one : (b : Bool) → b ≡ ((view x).sort == sort) → map f (if b then pick ∷ [] else []) ≡ of_sort sort (view x ∷ [])
    one true e = ap (λ z. z ∷ []) term ∙ ap (λ k. if k then (view x).term ∷ [] else []) e
    one false e = ap (λ k. if k then (view x).term ∷ [] else []) e

-- the element of a mapped list
pub mapped-at : {A B : Type 0} (f : A → B) (xs : List A) (i : ℕ) (x : A) (d : B) → i < length xs → x ≡ get_or xs i x → slice_index_or (map f xs) i d ≡ f x
mapped-at f [] i x d within at = absurd (omega arith)
mapped-at f (y ∷ xs) zero x d within at = ap f (sym at)
mapped-at f (y ∷ xs) (suc i) x d within at = mapped-at f xs i x d (omega arith) at

-- a further list of those that are continued
pub lists-added : {A : Type 0} (view : A → List TermTree) (now after : List (List TermTree)) (ts : List TermTree) (xs : List A) (i : ℕ) (x : A) → i < length xs → x ≡ get_or xs i x →
    now ≡ two (extended (map view (take i xs)) ts) → after ≡ two (now ++ map (with_last (view x)) ts) → after ≡ two (extended (map view (take (i + 1) xs)) ts)
lists-added view now after ts xs i x within at a b =
    let more = map (with_last (view x)) ts in
    let some = extended (map view (take i xs)) ts in
    let e : extended (map view (take (i + 1) xs)) ts ≡ some ++ more =
    ap (λ k. extended (map view k) ts) (take_next xs i x within at)
    ∙ ap (λ k. extended k ts) (map-append view (take i xs) (x ∷ []))
    ∙ extended-join (map view (take i xs)) (view x ∷ []) ts
    ∙ ap (λ z. some ++ z) (last more) in
    b ∙ ap (λ z. two (z ++ more)) a ∙ two_more some more ∙ ap two (sym e)
  where
    last : (zs : List (List TermTree)) → zs ++ [] ≡ zs
    last [] = refl
    last (z ∷ zs) = ap (λ w. z ∷ w) (last zs)

-- two are enough
pub enough : {A B : Type 0} (f : A → B) (xs : List A) (ys : List B) → length xs ≡ 2 → map f xs ≡ two (map f xs ++ ys)
enough f [] ys h = absurd (omega (arith, h))
enough f (x ∷ []) ys h = absurd (omega (arith, h))
enough f (x ∷ y ∷ []) ys h = refl
enough f (x ∷ y ∷ z ∷ zs) ys h = absurd (omega (arith, h))

pub few-map : {A B : Type 0} (f : A → B) (xs : List A) → length xs ≤ 2 → map f xs ≡ two (map f xs)
few-map f [] h = refl
few-map f (x ∷ []) h = refl
few-map f (x ∷ y ∷ []) h = refl
few-map f (x ∷ y ∷ z ∷ zs) h = absurd (omega arith)

-- lists of another length have no argument lists
pub argument_lists-unlike : {A B : Type 0} (f : A → List Typed) (g : B → ℕ) (ls : List (List TermTree)) (parts : List A) (sorts : List B) → (length sorts ≡ length parts → ⊥) → argument_lists ls (map f parts) (map g sorts) ≡ []
argument_lists-unlike f g ls [] [] h = absurd (h refl)
argument_lists-unlike f g ls [] (s ∷ sorts) h = refl
argument_lists-unlike f g ls (p ∷ parts) [] h = refl
argument_lists-unlike f g ls (p ∷ parts) (s ∷ sorts) h = argument_lists-unlike f g (extended ls (of_sort (g s) (f p))) parts sorts (λ e. h (ap suc e))

-- the lists with the next argument behind them, and those that are left
pub lists-continued : {A B : Type 0} (f : A → List Typed) (g : B → ℕ) (ls longer all : List (List TermTree)) (parts : List A) (sorts : List B) (i : ℕ) (p : A) (d : B) → i < length parts → i < length sorts → p ≡ get_or parts i p → (lists : List (List TermTree)) → lists ≡ ls → (table : List Typed) → table ≡ f p →
    longer ≡ two (extended lists (of_sort (g (get_or sorts i d)) table)) → two (argument_lists ls (map f (drop i parts)) (map g (drop i sorts))) ≡ two all → two (argument_lists longer (map f (drop (i + 1) parts)) (map g (drop (i + 1) sorts))) ≡ two all
lists-continued f g ls longer all parts sorts i p d wp ws at lists le table te b h =
    let now = extended ls (of_sort (g (get_or sorts i d)) (f p)) in
    let a : longer ≡ two now = b ∙ ap (λ z. two (extended z (of_sort (g (get_or sorts i d)) table))) le ∙ ap (λ z. two (extended ls (of_sort (g (get_or sorts i d)) z))) te in
    argument_lists-same longer now (map f (drop (i + 1) parts)) (map f (drop (i + 1) parts)) (map g (drop (i + 1) sorts)) (ap two a ∙ two_twice now) (all-stand-themselves (map f (drop (i + 1) parts)))
    ∙ sym (ap (λ k. two (argument_lists ls (map f k) (map g (drop i sorts)))) (dropped-next parts i p wp at) ∙ ap (λ k. two (argument_lists ls (f p ∷ map f (drop (i + 1) parts)) (map g k))) (drop-cons sorts i d ws ∙ ap (λ k. get_or sorts i d ∷ drop k sorts) (sym (add-one i))))
    ∙ h

-- all arguments are behind them
pub lists-ended : {A B : Type 0} (f : A → List Typed) (g : B → ℕ) (ls all : List (List TermTree)) (parts : List A) (sorts : List B) (i : ℕ) → length parts ≤ i → length sorts ≤ i → two (argument_lists ls (map f (drop i parts)) (map g (drop i sorts))) ≡ two all → two ls ≡ two all
lists-ended f g ls all parts sorts i a b h =
    sym (ap (λ k. two (argument_lists ls (map f k) (map g (drop i sorts)))) (drop_all i parts a) ∙ ap (λ k. two (argument_lists ls [] (map g k))) (drop_all i sorts b)) ∙ h

-- an element of a list that a loop goes over by another name
pub moved-within : {A : Type 0} (xs ys : List A) (i : ℕ) → ys ≡ xs → i < length ys → i < length xs
moved-within xs ys i same within = subst (λ zs. i < length zs) same within

pub moved-at : {A : Type 0} (xs ys : List A) (i : ℕ) (x : A) → ys ≡ xs → x ≡ get_or ys i x → x ≡ get_or xs i x
moved-at xs ys i x same at = at ∙ ap (λ zs. get_or zs i x) same

-- one more of those of some sorts
pub those-next : {A : Type 0} (view : A → Typed) (p : ℕ → Bool) (xs : List A) (x : A) (before now : List A) (wanted : Bool) → wanted ≡ p (view x).sort → map view before ≡ those p (map view xs) → now ≡ before ++ (if wanted then x ∷ [] else []) → map view now ≡ those p (map view (xs ++ (x ∷ [])))
those-next view p xs x before now wanted w b n =
    ap (map view) n ∙ map-append view before (if wanted then x ∷ [] else []) ∙ ap (λ z. z ++ map view (if wanted then x ∷ [] else [])) b
    ∙ ap (λ z. those p (map view xs) ++ z) (one wanted w)
    ∙ sym (ap (those p) (map-append view xs (x ∷ [])) ∙ those_join p (map view xs) (view x ∷ []))
  where
    one : (b : Bool) → b ≡ p (view x).sort → map view (if b then x ∷ [] else []) ≡ those p (view x ∷ [])
    one true e = ap (λ k. if k then view x ∷ [] else []) e
    one false e = ap (λ k. if k then view x ∷ [] else []) e
