-- Tables by rounds whose elements aren't made from themselves.
use Rattle.std.proofs.Common.{ℕ, zero, suc, ◌≡◌, ◌∙◌, refl, sym, ap, subst, ◌<◌, ◌≤◌, ◌⊎◌, inl, inr, List, [], ◌∷◌, length, map, get_or, arith}
use Rattle.std.specs.List.{AllByRecursion, Contains, slice_index_or}
use Rattle.std.proofs.lemmas.List.{ext_get_or, get_or-map, length-map}
use Rattle.std.proofs.lemmas.Bool.{cases_lt}
use Rattle.spec_core.proofs.Members.{contains_first, contains_later}
use Rattle.type_contents.specs.Rounds.{rounds, table}
use Rattle.type_contents.proofs.Settled.{past_all, rounds_length}
use Rattle.type_cycles.specs.MadeFrom.{AreAcyclic}
use Rattle.type_cycles.proofs.Walks.{Walks, acyclic_short}

-- from the n-th round on, each has this element as the n-th
SameFrom : {D A : Type 0} → A → (List A → D → A) → List D → ℕ → ℕ → Type 0
SameFrom nothing make all n k = (m : ℕ) → n ≤ m → slice_index_or (rounds nothing make all m) k nothing ≡ slice_index_or (rounds nothing make all n) k nothing

-- a walk of so many steps among elements
record WalkOf {D : Type 0} (uses : D → List ℕ) (all : List D) (n k : ℕ) : Type 0 where
  types : List ℕ
  to : ℕ
  within : to < length all
  walk : Walks (map uses all) k types to
  steps : length types ≡ n

element : {D : Type 0} (all : List D) (k : ℕ) → k < length all → (d : D) × (d ≡ get_or all k d)
element [] k h = absurd (omega (arith, h))
element (x ∷ xs) zero h = (x, refl)
element (x ∷ xs) (suc k) h = element xs k (omega (arith, h))

-- all of them, or one of which it isn't so
all_or_one : (P Q : ℕ → Type 0) → ((j : ℕ) → P j ⊎ Q j) → (used : List ℕ) → AllByRecursion P used ⊎ ((j : ℕ) × Contains used j × Q j)
all_or_one P Q either [] = inl tt
all_or_one P Q either (j ∷ js) = by_first (either j) (all_or_one P Q either js)
  where
    by_first : P j ⊎ Q j → AllByRecursion P js ⊎ ((i : ℕ) × Contains js i × Q i) → AllByRecursion P (j ∷ js) ⊎ ((i : ℕ) × Contains (j ∷ js) i × Q i)
    by_first (inr q) rest = inr (j, contains_first j js, q)
    by_first (inl p) (inl ps) = inl (p, ps)
    by_first (inl p) (inr (i, within, q)) = inr (i, contains_later j i js within, q)

-- elements past the end
past_same : {D A : Type 0} (nothing : A) (make : List A → D → A) (all : List D) (n k : ℕ) → length all ≤ k → SameFrom nothing make all n k
unfolding SameFrom
past_same nothing make all n k h m le =
    past_all (rounds nothing make all m) k nothing (subst (λ z. z ≤ k) (sym (rounds_length nothing make all m)) h)
    ∙ sym (past_all (rounds nothing make all n) k nothing (subst (λ z. z ≤ k) (sym (rounds_length nothing make all n)) h))

agree : {D A : Type 0} (nothing : A) (make : List A → D → A) (all : List D) (n m : ℕ) → n ≤ m → (used : List ℕ) → AllByRecursion (SameFrom nothing make all n) used
    → AllByRecursion (λ j. slice_index_or (rounds nothing make all m) j nothing ≡ slice_index_or (rounds nothing make all n) j nothing) used
unfolding SameFrom
agree nothing make all n m le [] h = tt
agree nothing make all n m le (j ∷ js) h = (h.0 m le, agree nothing make all n m le js h.1)

-- an element that is made from those that stay the same stays so from the next round on
next_same : {D A : Type 0} (nothing : A) (make : List A → D → A) (all : List D) (used : List ℕ) (n k : ℕ) (d : D)
    → ((t u : List A) → AllByRecursion (λ j. slice_index_or t j nothing ≡ slice_index_or u j nothing) used → make t d ≡ make u d)
    → k < length all → d ≡ get_or all k d → AllByRecursion (SameFrom nothing make all n) used → SameFrom nothing make all (suc n) k
unfolding SameFrom
next_same nothing make all used n k d looks within at same zero le = absurd (omega (arith, le))
next_same nothing make all used n k d looks within at same (suc m) le =
    get_or-map (make (rounds nothing make all m)) all k d nothing within ∙ ap (make (rounds nothing make all m)) (sym at)
    ∙ looks (rounds nothing make all m) (rounds nothing make all n) (agree nothing make all n m (omega (arith, le)) used same)
    ∙ ap (make (rounds nothing make all n)) at ∙ sym (get_or-map (make (rounds nothing make all n)) all k d nothing within)

one_more : {D : Type 0} (uses : D → List ℕ) (all : List D) (n k : ℕ) (d : D) → k < length all → d ≡ get_or all k d → (j : ℕ) × Contains (uses d) j × WalkOf uses all n j → WalkOf uses all (suc n) k
one_more uses all n k d within at (j, used, w) = record {
  types = k ∷ w.types;
  to = w.to;
  within = w.within;
  walk = (refl, (j, subst (λ zs. Contains zs j) (ap uses at ∙ sym (get_or-map uses all k d [] within)) used, w.walk));
  steps = ap suc w.steps;
}

same_or_walk : {D A : Type 0} (nothing : A) (make : List A → D → A) (uses : D → List ℕ) (all : List D)
    → ((d : D) (t u : List A) → AllByRecursion (λ j. slice_index_or t j nothing ≡ slice_index_or u j nothing) (uses d) → make t d ≡ make u d)
    → (n k : ℕ) → SameFrom nothing make all n k ⊎ WalkOf uses all n k
same_or_walk nothing make uses all looks zero k = elim (cases_lt k (length all)) [
  | inl h ↦ inr (record { types = []; to = k; within = h; walk = refl; steps = refl })
  | inr h ↦ inl (past_same nothing make all zero k h)
]
same_or_walk {D = D} nothing make uses all looks (suc n) k = elim (cases_lt k (length all)) [
  | inl h ↦ by_uses h (element all k h) (λ used. all_or_one (SameFrom nothing make all n) (WalkOf uses all n) (λ j. same_or_walk nothing make uses all looks n j) used)
  | inr h ↦ inl (past_same nothing make all (suc n) k h)
]
  where
    by_uses : (h : k < length all) → (d : D) × (d ≡ get_or all k d)
        → ((used : List ℕ) → AllByRecursion (SameFrom nothing make all n) used ⊎ ((j : ℕ) × Contains used j × WalkOf uses all n j))
        → SameFrom nothing make all (suc n) k ⊎ WalkOf uses all (suc n) k
    by_uses h (d, at) either = elim (either (uses d)) [
      | inl same ↦ inl (next_same nothing make all (uses d) n k d (looks d) h at same)
      | inr one ↦ inr (one_more uses all n k d h at one)
    ]

-- where none is made from itself, a further round changes nothing
pub table_stays : {D A : Type 0} (nothing : A) (make : List A → D → A) (uses : D → List ℕ) (all : List D)
    → ((d : D) (t u : List A) → AllByRecursion (λ j. slice_index_or t j nothing ≡ slice_index_or u j nothing) (uses d) → make t d ≡ make u d)
    → AreAcyclic (map uses all) → map (make (table nothing make all)) all ≡ table nothing make all
unfolding SameFrom
table_stays nothing make uses all looks acyclic =
    ext_get_or nothing (rounds nothing make all (suc (length all))) (rounds nothing make all (length all))
    (rounds_length nothing make all (suc (length all)) ∙ sym (rounds_length nothing make all (length all)))
    (λ k h. by_case k (same_or_walk nothing make uses all looks (length all) k))
  where
    by_case : (k : ℕ) → SameFrom nothing make all (length all) k ⊎ WalkOf uses all (length all) k
        → get_or (rounds nothing make all (suc (length all))) k nothing ≡ get_or (rounds nothing make all (length all)) k nothing
    by_case k (inl same) = same (suc (length all)) (omega arith)
    by_case k (inr w) =
        absurd (omega (arith, acyclic_short (map uses all) acyclic k w.types w.to (subst (λ z. w.to < z) (sym (length-map all uses)) w.within) w.walk, length-map all uses, w.steps))
