-- Which operation a name, argument sorts and, where more than one have these, a result sort tell.
use Rattle.std.proofs.Common.{ℕ, zero, suc, ◌≡◌, ◌<◌, ◌+◌, ◌&&◌, Bool, true, false, List, [], ◌∷◌, ◌++◌, codes, length}
use Rattle.std.proofs.Common.{Option, Some, None, nat_lt, refl, ap, sym, ◌∙◌, subst, arith, map, count_by, if◌then◌else◌, drop}
use Rattle.std.specs.Char.{to_ascii_lowercase}
use Rattle.std.specs.List.{slice_get}
use Rattle.std.specs.Str.{bytes_eq}
use Rattle.std.proofs.lemmas.Bool.Decides.{nat_tests}
use Rattle.std.proofs.lemmas.List.Recursion.{is_count_by}
use Rattle.std.proofs.lemmas.Slice.Eq.{bytes_eq-Decides}
use Rattle.std.proofs.lemmas.Bool.{and_from}
use Rattle.spec_core.specs.Lists.{Each, NoTwo}
use Rattle.spec_core.specs.Names.{IsIdentifier, IsSameName}
use Rattle.spec_core.specs.Ready.{IsSameOperation}
use Rattle.spec_core.specs.Sorts.{HasSort, HaveSorts, OnSome}
use Rattle.spec_core.specs.TermText.{shares, sort_text}
use Rattle.spec_core.specs.Terms.{TermTree, TermTrees, variable, apply, no_terms, and_term}
use Rattle.spec_core.specs.Theories.{Operation, Theory}
use Rattle.value_text.specs.Values.{is_shared, name_at}
use Rattle.value_text.proofs.Names.{EndsTerm, one_place, one_named}

-- a term has one sort at most
one_result : (theory : Theory) (vars : ℕ → Option ℕ) (o : Option Operation) (ts : TermTrees) (a b : ℕ) →
    OnSome o (λ d. (d.result ≡ a) × HaveSorts theory vars ts d.args) → OnSome o (λ d. (d.result ≡ b) × HaveSorts theory vars ts d.args) → a ≡ b
one_result theory vars None ts a b h k = absurd h
one_result theory vars (Some d) ts a b h k = sym h.0 ∙ k.0

pub one_sort : (theory : Theory) (vars : ℕ → Option ℕ) (t : TermTree) (a b : ℕ) → HasSort theory vars t a → HasSort theory vars t b → a ≡ b
one_sort theory vars (variable x) a b h k = let e : Some a ≡ Some b = sym h ∙ k in let q : a ≡ b = cc in q
one_sort theory vars (apply f ts) a b h k = one_result theory vars (slice_get theory.operations f) ts a b h k

pub one_sorts : (theory : Theory) (vars : ℕ → Option ℕ) (ts : TermTrees) (a b : List ℕ) →
    HaveSorts theory vars ts a → HaveSorts theory vars ts b → a ≡ b
one_sorts theory vars no_terms [] [] h k = refl
one_sorts theory vars no_terms [] (b ∷ bs) h k = absurd k
one_sorts theory vars no_terms (a ∷ others) bs h k = absurd h
one_sorts theory vars (and_term t ts) [] bs h k = absurd h
one_sorts theory vars (and_term t ts) (a ∷ others) [] h k = absurd k
one_sorts theory vars (and_term t ts) (a ∷ others) (b ∷ bs) h k =
    ap (λ z. z ∷ others) (one_sort theory vars t a b h.0 k.0) ∙ ap (λ z. b ∷ z) (one_sorts theory vars ts others bs h.1 k.1)

-- how many pass a test
abbrev passing : {A : Type 0} → (A → Bool) → List A → ℕ
passing p [] = 0
passing p (x ∷ xs) = if p x then 1 + passing p xs else passing p xs

passing_so : {A : Type 0} (p : A → Bool) (xs : List A) → passing p xs ≡ count_by p xs
passing_so p xs = is_count_by (passing p) p refl (λ x xs. refl) xs

-- at most one of a list passes a test that is passed at most once
none_passes : {A : Type 0} (p : A → Bool) (xs : List A) (i : ℕ) (x : A) → passing p xs ≡ 0 → slice_get xs i ≡ Some x → p x ≡ true → ⊥
none_passes p [] zero x n e h = cc
none_passes p [] (suc i) x n e h = cc
none_passes p (y ∷ xs) zero x n e h =
    let same : y ≡ x = cc in
    counted (p y) (passing p xs) n (ap p same ∙ h)
  where
    counted : (b : Bool) (k : ℕ) → (if b then 1 + k else k) ≡ 0 → b ≡ true → ⊥
    counted true k e h = omega (arith, e)
    counted false k e h = cc
none_passes p (y ∷ xs) (suc i) x n e h = none_passes p xs i x (later (p y) (passing p xs) n) e h
  where
    later : (b : Bool) (k : ℕ) → (if b then 1 + k else k) ≡ 0 → k ≡ 0
    later true k e = absurd (omega (arith, e))
    later false k e = e

one_passes : {A : Type 0} (p : A → Bool) (xs : List A) (i j : ℕ) (x y : A) → passing p xs < 2 →
    slice_get xs i ≡ Some x → slice_get xs j ≡ Some y → p x ≡ true → p y ≡ true → i ≡ j
one_passes p [] zero j x y n a b h k = absurd (cc)
one_passes p [] (suc i) j x y n a b h k = absurd (cc)
one_passes p (z ∷ xs) zero zero x y n a b h k = refl
one_passes p (z ∷ xs) zero (suc j) x y n a b h k =
    let same : z ≡ x = cc in
    absurd (none_passes p xs j y (rest (p z) (passing p xs) n (ap p same ∙ h)) b k)
  where
    rest : (b : Bool) (k : ℕ) → (if b then 1 + k else k) < 2 → b ≡ true → k ≡ 0
    rest true k e h = omega arith
    rest false k e h = absurd (cc)
one_passes p (z ∷ xs) (suc i) zero x y n a b h k =
    let same : z ≡ y = cc in
    absurd (none_passes p xs i x (rest (p z) (passing p xs) n (ap p same ∙ k)) a h)
  where
    rest : (b : Bool) (k : ℕ) → (if b then 1 + k else k) < 2 → b ≡ true → k ≡ 0
    rest true k e h = omega arith
    rest false k e h = absurd (cc)
one_passes p (z ∷ xs) (suc i) (suc j) x y n a b h k = ap suc (one_passes p xs i j x y (fewer (p z) (passing p xs) n) a b h k)
  where
    fewer : (b : Bool) (k : ℕ) → (if b then 1 + k else k) < 2 → k < 2
    fewer true k e = omega arith
    fewer false k e = e

-- the same, where two operations share name and argument sorts
abbrev named_so : List ℕ → List ℕ → Operation → Bool
named_so name args x = bytes_eq (map to_ascii_lowercase name) (map to_ascii_lowercase x.name) && bytes_eq args x.args

pub itself : (xs : List ℕ) → bytes_eq xs xs ≡ true
itself xs = (bytes_eq-Decides xs xs).1 refl

pub shares_itself : (d : Operation) → shares d d ≡ true
shares_itself d =
    and_from (bytes_eq (map to_ascii_lowercase d.name) (map to_ascii_lowercase d.name)) (bytes_eq d.args d.args)
    (itself (map to_ascii_lowercase d.name)) (itself d.args)

pub shares_alike : (d e : Operation) → d.name ≡ e.name → d.args ≡ e.args → shares d ≡ shares e
shares_alike d e n a = ap (λ x. named_so x d.args) n ∙ ap (λ x. named_so e.name x) a

pub shared_alike : (operations : List Operation) (d e : Operation) → d.name ≡ e.name → d.args ≡ e.args →
    is_shared operations d ≡ is_shared operations e
shared_alike operations d e n a = ap (λ p. nat_lt 1 (count_by p operations)) (shares_alike d e n a)

unshared_count : (n : ℕ) → nat_lt 1 n ≡ false → n < 2
unshared_count n h = grind (arith, nat_tests)

-- of operations with one name and argument sorts, an unshared one is the only one
pub one_unshared : (operations : List Operation) (f g : ℕ) (d e : Operation) →
    slice_get operations f ≡ Some d → slice_get operations g ≡ Some e → d.name ≡ e.name → d.args ≡ e.args →
    is_shared operations d ≡ false → f ≡ g
one_unshared operations f g d e a b n r alone =
    one_passes (shares d) operations f g d e
    (subst (λ k. k < 2) (sym (passing_so (shares d) operations)) (unshared_count (count_by (shares d) operations) alone)) a b
    (shares_itself d) (ap (λ p. p e) (shares_alike d e n r) ∙ shares_itself e)

pub one_operation : (operations : List Operation) (f g : ℕ) (d e : Operation) → NoTwo IsSameOperation operations →
    slice_get operations f ≡ Some d → slice_get operations g ≡ Some e → d.name ≡ e.name → d.args ≡ e.args → d.result ≡ e.result → f ≡ g
one_operation operations f g d e differ a b n r s =
    one_place IsSameOperation operations f g d e differ a b (ap (map to_ascii_lowercase) n, r, s)
    (ap (map to_ascii_lowercase) (sym n), sym r, sym s)

-- what stands behind a term tells, with the name and the argument sorts, which operation it is
abbrev pub of_sort : List (List ℕ) → Bool → ℕ → List ℕ
of_sort sorts shared sort = if shared then codes " of " ++ name_at sorts sort else []

pub one_suffix : (theory : Theory) (f g : ℕ) (d e : Operation) (r s : List ℕ) →
    Each IsIdentifier theory.sorts → NoTwo IsSameName theory.sorts → NoTwo IsSameOperation theory.operations →
    d.result < length theory.sorts → e.result < length theory.sorts →
    slice_get theory.operations f ≡ Some d → slice_get theory.operations g ≡ Some e → d.name ≡ e.name → d.args ≡ e.args →
    EndsTerm r → EndsTerm s →
    sort_text theory.sorts theory.operations d ++ r ≡ sort_text theory.sorts theory.operations e ++ s → (f ≡ g) × (r ≡ s)
one_suffix theory f g d e r s names sorts operations dr er a b n m x y h =
    go (is_shared theory.operations d) (is_shared theory.operations e) refl (shared_alike theory.operations d e n m) h
  where
    go : (p q : Bool) → is_shared theory.operations d ≡ p → p ≡ q →
        of_sort theory.sorts p d.result ++ r ≡ of_sort theory.sorts q e.result ++ s → (f ≡ g) × (r ≡ s)
    go false false alone same k = (one_unshared theory.operations f g d e a b n m alone, k)
    go false true alone same k = absurd (cc)
    go true false alone same k = absurd (cc)
    go true true alone same k =
        let l : name_at theory.sorts d.result ++ r ≡ name_at theory.sorts e.result ++ s = ap (drop 4) k in
        let one = one_named theory.sorts d.result e.result r s names sorts dr er x y l in
        (one_operation theory.operations f g d e operations a b n m one.0, one.1)
