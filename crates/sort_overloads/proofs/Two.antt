-- The first two of lists.
use Rattle.std.proofs.Common.{ℕ, ◌≡◌, ◌≤◌, ◌==◌, List, [], ◌∷◌, ◌++◌, length, map, refl, ap, sym, ◌∙◌, arith, Bool}
use Rattle.std.proofs.Common.{true, false, ◌&&◌, if◌then◌else◌}
use Rattle.spec_core.specs.Terms.{TermTree}
use Rattle.sort_overloads.specs.Listed.{Typed, two, those, of_sort, extended, argument_lists, application, StandsFor}

pub two_join : {A : Type 0} (xs ys : List A) → two (xs ++ ys) ≡ two (two xs ++ two ys)
two_join [] [] = refl
two_join [] (y ∷ []) = refl
two_join [] (y ∷ z ∷ ys) = refl
two_join (x ∷ []) [] = refl
two_join (x ∷ []) (y ∷ []) = refl
two_join (x ∷ []) (y ∷ z ∷ ys) = refl
two_join (x ∷ w ∷ xs) ys = refl

pub two_twice : {A : Type 0} (xs : List A) → two (two xs) ≡ two xs
two_twice [] = refl
two_twice (x ∷ []) = refl
two_twice (x ∷ y ∷ zs) = refl

pub two_few : {A : Type 0} (xs : List A) → length xs ≤ 2 → two xs ≡ xs
two_few [] h = refl
two_few (x ∷ []) h = refl
two_few (x ∷ y ∷ []) h = refl
two_few (x ∷ y ∷ z ∷ zs) h = absurd (omega arith)

pub two_map : {A B : Type 0} (f : A → B) (xs : List A) → two (map f xs) ≡ map f (two xs)
two_map f [] = refl
two_map f (x ∷ []) = refl
two_map f (x ∷ y ∷ zs) = refl

-- joined lists, of which each has the same first two as another
pub two_joined : {A : Type 0} (xs ys us vs : List A) → two xs ≡ two us → two ys ≡ two vs → two (xs ++ ys) ≡ two (us ++ vs)
two_joined xs ys us vs a b = two_join xs ys ∙ ap (λ z. two (z ++ two ys)) a ∙ ap (λ z. two (two us ++ z)) b ∙ sym (two_join us vs)

-- the first two, and then more
pub two_more : {A : Type 0} (xs ys : List A) → two (two xs ++ ys) ≡ two (xs ++ ys)
two_more xs ys = two_joined (two xs) ys xs ys (two_twice xs) refl

pub those_join : (p : ℕ → Bool) (xs ys : List Typed) → those p (xs ++ ys) ≡ those p xs ++ those p ys
those_join p [] ys = refl
those_join p (x ∷ xs) ys = step (p x.sort) (those_join p xs ys)
  where
    step : (b : Bool) → those p (xs ++ ys) ≡ those p xs ++ those p ys → (if b then x ∷ those p (xs ++ ys) else those p (xs ++ ys))
        ≡ (if b then x ∷ those p xs else those p xs) ++ those p ys
    step true h = ap (λ zs. x ∷ zs) h
    step false h = h

pub those_those : (p q : ℕ → Bool) (xs : List Typed) → those p (those q xs) ≡ those (λ s. q s && p s) xs
those_those p q [] = refl
those_those p q (x ∷ xs) = step (q x.sort) (those_those p q xs)
  where
    step : (b : Bool) → those p (those q xs) ≡ those (λ s. q s && p s) xs → those p (if b then x ∷ those q xs else those q xs)
        ≡ (if b && p x.sort then x ∷ those (λ s. q s && p s) xs else those (λ s. q s && p s) xs)
    step true h = ap (λ zs. if p x.sort then x ∷ zs else zs) h
    step false h = h

pub of_sort-those : (sort : ℕ) (xs : List Typed) → of_sort sort xs ≡ map (λ r. r.term) (those (λ s. s == sort) xs)
of_sort-those sort [] = refl
of_sort-those sort (x ∷ xs) = step (x.sort == sort) (of_sort-those sort xs)
  where
    step : (b : Bool) → of_sort sort xs ≡ map (λ r. r.term) (those (λ s. s == sort) xs)
        → (if b then x.term ∷ of_sort sort xs else of_sort sort xs) ≡ map (λ r. r.term)
        (if b then x ∷ those (λ s. s == sort) xs else those (λ s. s == sort) xs)
    step true h = ap (λ zs. x.term ∷ zs) h
    step false h = h

pub stands-itself : (all : List Typed) → StandsFor all all
stands-itself all p = refl

pub stands-joined : (xs ys us vs : List Typed) → StandsFor xs us → StandsFor ys vs → StandsFor (xs ++ ys) (us ++ vs)
stands-joined xs ys us vs a b p =
    ap two (those_join p us vs) ∙ two_joined (those p us) (those p vs) (those p xs) (those p ys) (a p) (b p)
    ∙ sym (ap two (those_join p xs ys))

pub stands-chained : (xs ys zs : List Typed) → StandsFor xs ys → StandsFor ys zs → StandsFor xs zs
stands-chained xs ys zs a b p = b p ∙ a p

pub stands-those : (q : ℕ → Bool) (xs us : List Typed) → StandsFor xs us → StandsFor (those q xs) (those q us)
stands-those q xs us a p = ap two (those_those p q us) ∙ a (λ s. q s && p s) ∙ sym (ap two (those_those p q xs))

pub stands-of_sort : (sort : ℕ) (xs us : List Typed) → StandsFor xs us → two (of_sort sort us) ≡ two (of_sort sort xs)
stands-of_sort sort xs us a =
    ap two (of_sort-those sort us) ∙ two_map (λ r. r.term) (those (λ s. s == sort) us) ∙ ap (map (λ r. r.term)) (a (λ s. s == sort))
    ∙ sym (two_map (λ r. r.term) (those (λ s. s == sort) xs)) ∙ sym (ap two (of_sort-those sort xs))

-- lists with terms behind them
extended-none : (ls : List (List TermTree)) → extended ls [] ≡ []
extended-none [] = refl
extended-none (l ∷ ls) = extended-none ls

pub extended-two : (ls : List (List TermTree)) (ts : List TermTree) → two (extended ls ts) ≡ two (extended (two ls) (two ts))
extended-two [] ts = refl
extended-two (l ∷ []) [] = refl
extended-two (l ∷ []) (t ∷ []) = refl
extended-two (l ∷ []) (t ∷ u ∷ ts) = refl
extended-two (l ∷ m ∷ ls) [] = ap two (extended-none ls)
extended-two (l ∷ m ∷ ls) (t ∷ []) = refl
extended-two (l ∷ m ∷ ls) (t ∷ u ∷ ts) = refl

pub extended-same : (ls ks : List (List TermTree)) (ts us : List TermTree) → two ls ≡ two ks → two ts ≡ two us → two (extended ls ts)
    ≡ two (extended ks us)
extended-same ls ks ts us a b = extended-two ls ts ∙ ap (λ z. two (extended z (two ts))) a ∙ ap (λ z. two (extended (two ks) z)) b
    ∙ sym (extended-two ks us)

-- each table stands for the readings at its place
abbrev pub AllStandFor : List (List Typed) → List (List Typed) → Type 0
AllStandFor [] [] = Unit {0}
AllStandFor (all ∷ alls) (kept ∷ kepts) = StandsFor all kept × AllStandFor alls kepts
AllStandFor [] (kept ∷ kepts) = ⊥
AllStandFor (all ∷ alls) [] = ⊥

pub all-stand-themselves : (alls : List (List Typed)) → AllStandFor alls alls
all-stand-themselves [] = tt
all-stand-themselves (all ∷ alls) = (stands-itself all, all-stand-themselves alls)

pub argument_lists-same : (ls ks : List (List TermTree)) (alls kepts : List (List Typed)) (sorts : List ℕ) → two ls ≡ two ks
    → AllStandFor alls kepts → two (argument_lists ls kepts sorts) ≡ two (argument_lists ks alls sorts)
argument_lists-same ls ks [] [] [] a h = a
argument_lists-same ls ks [] [] (s ∷ sorts) a h = refl
argument_lists-same ls ks [] (kept ∷ kepts) sorts a h = absurd h
argument_lists-same ls ks (all ∷ alls) [] sorts a h = absurd h
argument_lists-same ls ks (all ∷ alls) (kept ∷ kepts) [] a h = refl
argument_lists-same ls ks (all ∷ alls) (kept ∷ kepts) (s ∷ sorts) a h =
    argument_lists-same (extended ls (of_sort s kept)) (extended ks (of_sort s all)) alls kepts sorts
    (extended-same ls ks (of_sort s kept) (of_sort s all) a (stands-of_sort s all kept h.0)) h.1

-- readings by one operation, all of one sort
those-applied : (p : ℕ → Bool) (f sort : ℕ) (ls : List (List TermTree)) → those p (map (application f sort) ls)
    ≡ (if p sort then map (application f sort) ls else [])
those-applied p f sort ls = go (p sort) refl ls
  where
    yes : (ls : List (List TermTree)) → p sort ≡ true → those p (map (application f sort) ls) ≡ map (application f sort) ls
    yes [] e = refl
    yes (l ∷ ls) e = ap (λ b. if b then application f sort l ∷ those p (map (application f sort) ls) else those p
        (map (application f sort) ls)) e ∙ ap (λ zs. application f sort l ∷ zs) (yes ls e)

    no : (ls : List (List TermTree)) → p sort ≡ false → those p (map (application f sort) ls) ≡ []
    no [] e = refl
    no (l ∷ ls) e = ap (λ b. if b then application f sort l ∷ those p (map (application f sort) ls) else those p
        (map (application f sort) ls)) e ∙ no ls e

    go : (b : Bool) → p sort ≡ b → (ls : List (List TermTree)) → those p (map (application f sort) ls)
        ≡ (if b then map (application f sort) ls else [])
    go true e ls = yes ls e
    go false e ls = no ls e

pub stands-applied : (f sort : ℕ) (ls ks : List (List TermTree)) → two ls ≡ two ks
    → StandsFor (map (application f sort) ks) (map (application f sort) ls)
stands-applied f sort ls ks a p =
    ap two (those-applied p f sort ls) ∙ go (p sort) ∙ sym (ap two (those-applied p f sort ks))
  where
    go : (b : Bool) → two (if b then map (application f sort) ls else []) ≡ two (if b then map (application f sort) ks else [])
    go true = two_map (application f sort) ls ∙ ap (map (application f sort)) a ∙ sym (two_map (application f sort) ks)
    go false = refl
