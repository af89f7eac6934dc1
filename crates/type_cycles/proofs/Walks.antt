-- Walks from type to type.
use Rattle.std.proofs.Common.{ℕ, ◌≡◌, ◌<◌, ◌≤◌, ◌⊎◌, inl, inr, List, [], ◌∷◌, length, arith, ap, subst, sym, ◌∙◌, refl, Bool, true, false, nat_eq, ◌||◌}
use Rattle.std.specs.List.{slice_index_or, Contains, AllByRecursion, IsDistinct, list_any}
use Rattle.std.proofs.lemmas.List.{get_or_past}
use Rattle.std.proofs.lemmas.Bool.{eqb-true, eq-eqb, true≢false, or_cases, or_parts, cases_lt}
use Rattle.std.proofs.lemmas.Map.Keys.{IsDistinct-cons, IsDistinct-tail}
use Rattle.std.proofs.lemmas.Map.Steps.{length-le_from_distinct_below}
use Rattle.spec_core.proofs.Members.{contains_none}
use Rattle.type_cycles.specs.MadeFrom.{IsMadeFrom, directly, through, AreAcyclic}

none_twice : IsDistinct nat_eq []
unfolding IsDistinct
none_twice = tt

-- from a type along these, of which it is the first, to another, which isn't one of them
abbrev pub Walks : List (List ℕ) → ℕ → List ℕ → ℕ → Type 0
Walks links k [] to = k ≡ to
Walks links k (x ∷ xs) to = (x ≡ k) × ((j : ℕ) × Contains (slice_index_or links k []) j × Walks links j xs to)

-- what is made from something is of the list
pub linked_within : (links : List (List ℕ)) (k j : ℕ) → Contains (slice_index_or links k []) j → k < length links
linked_within links k j c = elim (cases_lt k (length links)) [
  | inl w ↦ w
  | inr p ↦ absurd (contains_none j (subst (λ zs. Contains zs j) (get_or_past links k [] p) c))
]

pub walk_made : (links : List (List ℕ)) (k x : ℕ) (xs : List ℕ) (to : ℕ) → Walks links k (x ∷ xs) to → IsMadeFrom links k to
walk_made links k x [] to (e, (j, c, last)) = directly (subst (λ z. Contains (slice_index_or links k []) z) last c)
walk_made links k x (y ∷ ys) to (e, (j, c, w)) = through c (walk_made links j y ys to w)

pub made_walk : {links : List (List ℕ)} {k to : ℕ} → IsMadeFrom links k to → (xs : List ℕ) × Walks links k (k ∷ xs) to
made_walk (directly {j = j} c) = ([], (refl, (j, c, refl)))
made_walk {links = links} {k = k} {to = to} (through {j = j} c m) = more (made_walk m)
  where
    more : (xs : List ℕ) × Walks links j (j ∷ xs) to → (xs : List ℕ) × Walks links k (k ∷ xs) to
    more (xs, w) = (j ∷ xs, (refl, (j, c, w)))

-- the types on a walk are of the list
pub walk_within : (links : List (List ℕ)) (k : ℕ) (xs : List ℕ) (to q : ℕ) → Walks links k xs to → list_any (nat_eq q) xs ≡ true → q < length links
walk_within links k [] to q w h = absurd (true≢false (sym h))
walk_within links k (x ∷ xs) to q (e, (j, c, w)) h = elim (or_cases (nat_eq q x) (list_any (nat_eq q) xs) h) [
  | inl s ↦ subst (λ z. z < length links) (sym (eqb-true q x s ∙ e)) (linked_within links k j c)
  | inr s ↦ walk_within links j xs to q w s
]

pub all_apart : (k : ℕ) (ys : List ℕ) → list_any (nat_eq k) ys ≡ false → AllByRecursion (λ y. nat_eq k y ≡ false) ys
all_apart k [] h = tt
all_apart k (y ∷ ys) h = let n : (nat_eq k y ≡ false) × (list_any (nat_eq k) ys ≡ false) = or_parts (nat_eq k y) (list_any (nat_eq k) ys) h in (n.0, all_apart k ys n.1)

-- a walk that comes to no type twice, and to its end only at its end
pub record Direct (links : List (List ℕ)) (k to : ℕ) : Type 0 where
  pub types : List ℕ
  pub walk : Walks links k types to
  pub distinct : IsDistinct nat_eq types
  pub not_the_end : list_any (nat_eq to) types ≡ false

-- where a walk comes to a type, it goes on from there
from_there : (links : List (List ℕ)) (j k : ℕ) (ys : List ℕ) (to : ℕ) → Walks links j ys to → IsDistinct nat_eq ys → list_any (nat_eq to) ys ≡ false → list_any (nat_eq k) ys ≡ true → Direct links k to
from_there links j k [] to w d n h = absurd (true≢false (sym h))
from_there links j k (y ∷ ys) to (e, (i, c, w)) d n h = elim (or_cases (nat_eq k y) (list_any (nat_eq k) ys) h) [
  | inl s ↦ subst (λ z. Direct links z to) (sym (eqb-true k y s ∙ e)) (record { types = y ∷ ys; walk = (e, (i, c, w)); distinct = d; not_the_end = n })
  | inr s ↦ from_there links i k ys to w (IsDistinct-tail nat_eq y ys d) (let m : (nat_eq to y ≡ false) × (list_any (nat_eq to) ys ≡ false) = or_parts (nat_eq to y) (list_any (nat_eq to) ys) n in m.1) s
]

differ_numbers : (j k : ℕ) → nat_eq j k ≡ false → j ≡ k → ⊥
differ_numbers j k e h = true≢false (sym (eq-eqb j k h) ∙ e)

pub direct : (links : List (List ℕ)) (k : ℕ) (xs : List ℕ) (to : ℕ) → Walks links k xs to → Direct links k to
direct links k [] to w = record { types = []; walk = w; distinct = none_twice; not_the_end = refl }
direct links k (x ∷ xs) to (e, (j, c, w)) = by_end (direct links j xs to w) (nat_eq to k) refl
  where
    by_start : (r : Direct links j to) → nat_eq to k ≡ false → (b : Bool) → list_any (nat_eq k) r.types ≡ b → Direct links k to
    by_start r n true h = from_there links j k r.types to r.walk r.distinct r.not_the_end h
    by_start r n false h = record {
      types = k ∷ r.types;
      walk = (refl, (j, c, r.walk));
      distinct = IsDistinct-cons nat_eq k r.types (all_apart k r.types h) r.distinct;
      not_the_end = ap (λ b. b || list_any (nat_eq to) r.types) n ∙ r.not_the_end;
    }

    by_end : Direct links j to → (b : Bool) → nat_eq to k ≡ b → Direct links k to
    by_end r true h = record { types = []; walk = sym (eqb-true to k h); distinct = none_twice; not_the_end = refl }
    by_end r false h = by_start r h (list_any (nat_eq k) r.types) refl

-- on a walk through types of which none is made from itself, no type stands twice

later : (links : List (List ℕ)) (k : ℕ) (xs : List ℕ) (to q : ℕ) → Walks links k xs to → list_any (nat_eq q) xs ≡ true → (q ≡ k) ⊎ IsMadeFrom links k q
later links k [] to q w h = absurd (true≢false (sym h))
later links k (x ∷ xs) to q (e, (j, c, w)) h = elim (or_cases (nat_eq q x) (list_any (nat_eq q) xs) h) [
  | inl s ↦ inl (eqb-true q x s ∙ e)
  | inr s ↦ inr (by_next (later links j xs to q w s))
]
  where
    by_next : (q ≡ j) ⊎ IsMadeFrom links j q → IsMadeFrom links k q
    by_next (inl same) = directly (subst (λ z. Contains (slice_index_or links k []) z) (sym same) c)
    by_next (inr m) = through c m

acyclic_distinct : (links : List (List ℕ)) → AreAcyclic links → (k : ℕ) (xs : List ℕ) (to : ℕ) → Walks links k xs to → IsDistinct nat_eq xs
acyclic_distinct links acyclic k [] to w = none_twice
acyclic_distinct links acyclic k (x ∷ xs) to (e, (j, c, w)) =
    subst (λ z. IsDistinct nat_eq (z ∷ xs)) (sym e) (IsDistinct-cons nat_eq k xs (all_apart k xs (by_test (list_any (nat_eq k) xs) refl)) (acyclic_distinct links acyclic j xs to w))
  where
    back : (k ≡ j) ⊎ IsMadeFrom links j k → IsMadeFrom links k k
    back (inl same) = directly (subst (λ z. Contains (slice_index_or links k []) z) (sym same) c)
    back (inr m) = through c m

    by_test : (b : Bool) → list_any (nat_eq k) xs ≡ b → list_any (nat_eq k) xs ≡ false
    by_test true h = absurd (acyclic k (back (later links j xs to k w h)))
    by_test false h = h

-- from each type on a walk one comes to its end
walk_ends : (links : List (List ℕ)) (k : ℕ) (xs : List ℕ) (to q : ℕ) → Walks links k xs to → list_any (nat_eq q) xs ≡ true → IsMadeFrom links q to
walk_ends links k [] to q w h = absurd (true≢false (sym h))
walk_ends links k (x ∷ xs) to q (e, (j, c, w)) h = elim (or_cases (nat_eq q x) (list_any (nat_eq q) xs) h) [
  | inl s ↦ subst (λ z. IsMadeFrom links z to) (sym (eqb-true q x s ∙ e)) (walk_made links k k xs to (refl, (j, c, w)))
  | inr s ↦ walk_ends links j xs to q w s
]

-- where no type is made from itself, a walk has fewer steps than there are types
pub acyclic_short : (links : List (List ℕ)) → AreAcyclic links → (k : ℕ) (xs : List ℕ) (to : ℕ) → to < length links → Walks links k xs to → length xs < length links
acyclic_short links acyclic k xs to within w = omega (arith, bounded)
  where
    by_test : (b : Bool) → list_any (nat_eq to) xs ≡ b → list_any (nat_eq to) xs ≡ false
    by_test true h = absurd (acyclic to (walk_ends links k xs to to w h))
    by_test false h = h

    each_within : (q : ℕ) → list_any (nat_eq q) (to ∷ xs) ≡ true → q < length links
    each_within q h = elim (or_cases (nat_eq q to) (list_any (nat_eq q) xs) h) [
      | inl s ↦ subst (λ z. z < length links) (sym (eqb-true q to s)) within
      | inr s ↦ walk_within links k xs to q w s
    ]

    bounded : length (to ∷ xs) ≤ length links
    bounded = length-le_from_distinct_below (to ∷ xs) (length links)
        (IsDistinct-cons nat_eq to xs (all_apart to xs (by_test (list_any (nat_eq to) xs) refl)) (acyclic_distinct links acyclic k xs to w)) each_within
