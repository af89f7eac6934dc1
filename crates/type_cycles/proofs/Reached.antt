-- Ways between types.
use Rattle.std.proofs.Common.{ℕ, zero, suc, ◌≡◌, ◌≤◌, ◌+◌, List, [], ◌∷◌, length, map, arith, ap, sym, ◌∙◌, refl, Option, Some, None, Bool, true, false, nat_eq, ◌⊎◌, inl, inr, subst}
use Rattle.std.specs.Prelude.{option_map, if◌then◌else◌, ◌==◌}
use Rattle.std.specs.List.{range_with_len, slice_index_or, Contains}
use Rattle.std.proofs.lemmas.List.FromFn.{get_or-map-range_with_len, length-map-range_with_len}
use Rattle.std.proofs.lemmas.List.{get_or_past}
use Rattle.std.proofs.lemmas.Grind.{common_steps}
use Rattle.std.proofs.lemmas.Option.{none-some}
use Rattle.std.proofs.lemmas.Bool.{cases_lt}
use Rattle.spec_core.proofs.Options.{not_mapped}
use Rattle.type_cycles.specs.Cycles.{first_some, way_from, ways_to, cycle_of}
use Rattle.type_cycles.specs.Ends.{Ends, ends}
use Rattle.type_cycles.proofs.Firsts.{first_is_none, first_of_none, found_in, none_at}
use Rattle.type_cycles.proofs.Walks.{linked_within}

-- a way from one type to another in so many steps
pub data Reaches (links : List (List ℕ)) : ℕ → ℕ → ℕ → Type 0 where
  here : {k : ℕ} → Reaches links zero k k
  there : {n k j to : ℕ} → Contains (slice_index_or links k []) j → Reaches links n j to → Reaches links (suc n) k to

same_number : (a b : ℕ) → nat_eq a b ≡ true → a ≡ b
same_number a b h = grind (arith, common_steps)

-- tables by numbers, past their ends too

pub table_at : {A : Type 0} (f : ℕ → Option A) (n k : ℕ) (a : A) → slice_index_or (map f (range_with_len 0 n)) k None ≡ Some a → f k ≡ Some a
table_at f n k a e = elim (cases_lt k n) [
  | inl h ↦ sym (get_or-map-range_with_len f 0 n k k None h (omega arith)) ∙ e
  | inr h ↦ absurd (none-some a (sym (get_or_past (map f (range_with_len 0 n)) k None (omega (arith, length-map-range_with_len f 0 n, h))) ∙ e))
]

table_of_none : {A : Type 0} (f : ℕ → Option A) (n : ℕ) → ((k : ℕ) → f k ≡ None) → (k : ℕ) → slice_index_or (map f (range_with_len 0 n)) k None ≡ None
table_of_none f n none k = elim (cases_lt k n) [
  | inl h ↦ get_or-map-range_with_len f 0 n k k None h (omega arith) ∙ none k
  | inr h ↦ get_or_past (map f (range_with_len 0 n)) k None (omega (arith, length-map-range_with_len f 0 n, h))
]

at_or_before : (n m : ℕ) → n ≤ suc m → (n ≡ suc m) ⊎ (n ≤ m)
at_or_before n m h = grind arith

at_zero : (n : ℕ) → n ≤ 0 → n ≡ 0
at_zero n h = omega arith

-- where no type has a way in so many steps, none has one in more
pub no_more_ways : (links : List (List ℕ)) (to n m : ℕ) → n ≤ m → ((k : ℕ) → slice_index_or (ways_to links to n) k None ≡ None) → (k : ℕ) → slice_index_or (ways_to links to m) k None ≡ None
no_more_ways links to n zero within none = subst (λ z. (k : ℕ) → slice_index_or (ways_to links to z) k None ≡ None) (at_zero n within) none
no_more_ways links to n (suc m) within none = by_end (λ h. no_more_ways links to n m h none) (at_or_before n m within)
  where
    by_end : (n ≤ m → (k : ℕ) → slice_index_or (ways_to links to m) k None ≡ None) → (n ≡ suc m) ⊎ (n ≤ m) → (k : ℕ) → slice_index_or (ways_to links to (suc m)) k None ≡ None
    by_end earlier (inl e) = subst (λ z. (k : ℕ) → slice_index_or (ways_to links to z) k None ≡ None) e none
    by_end earlier (inr h) = table_of_none (λ k. way_from (ways_to links to m) k (slice_index_or links k [])) (length links)
        (λ k. ap (option_map (λ w. k ∷ w)) (first_of_none (λ j. slice_index_or (ways_to links to m) j None) (earlier h) (slice_index_or links k [])))

-- where a type has no way in so many steps, none of which it is made has one in a step less
pub no_way_onward : (links : List (List ℕ)) (to n k j : ℕ) → Contains (slice_index_or links k []) j
    → slice_index_or (ways_to links to (suc n)) k None ≡ None → slice_index_or (ways_to links to n) j None ≡ None
no_way_onward links to n k j c e = none_at (λ j. slice_index_or (ways_to links to n) j None) (slice_index_or links k [])
    (not_mapped (λ way. k ∷ way) (first_some (λ j. slice_index_or (ways_to links to n) j None) (slice_index_or links k []))
    (sym (get_or-map-range_with_len (λ k. way_from (ways_to links to n) k (slice_index_or links k [])) 0 (length links) k k None
    (linked_within links k j c) (omega arith)) ∙ e))
    j c

pub way_reaches : (links : List (List ℕ)) (to n k : ℕ) (way : List ℕ) → slice_index_or (ways_to links to n) k None ≡ Some way → Reaches links n k to
way_reaches links to zero k way e = by_test (k == to) refl (table_at (λ k. if k == to then Some [] else None) (length links) k way e)
  where
    by_test : (b : Bool) → (k == to) ≡ b → (if b then Some [] else None) ≡ Some way → Reaches links zero k to
    by_test true t h = subst (λ z. Reaches links zero k z) (same_number k to t) here
    by_test false t h = absurd (cc)
way_reaches links to (suc n) k way e = by_first (λ j w at. way_reaches links to n j w at) (first_some (λ j. slice_index_or (ways_to links to n) j None) (slice_index_or links k [])) refl (table_at (λ k. way_from (ways_to links to n) k (slice_index_or links k [])) (length links) k way e)
  where
    onwards : ((j : ℕ) (w : List ℕ) → slice_index_or (ways_to links to n) j None ≡ Some w → Reaches links n j to) → (w : List ℕ) → (j : ℕ) × Contains (slice_index_or links k []) j × (slice_index_or (ways_to links to n) j None ≡ Some w) → Reaches links (suc n) k to
    onwards shorter w (j, within, at) = there within (shorter j w at)

    by_first : ((j : ℕ) (w : List ℕ) → slice_index_or (ways_to links to n) j None ≡ Some w → Reaches links n j to) → (o : Option (List ℕ)) → first_some (λ j. slice_index_or (ways_to links to n) j None) (slice_index_or links k []) ≡ o → option_map (λ w. k ∷ w) (first_some (λ j. slice_index_or (ways_to links to n) j None) (slice_index_or links k [])) ≡ Some way → Reaches links (suc n) k to
    by_first shorter None t h = absurd (none-some way (sym (ap (option_map (λ w. k ∷ w)) t) ∙ h))
    by_first shorter (Some w) t h = onwards shorter w (found_in (λ j. slice_index_or (ways_to links to n) j None) (slice_index_or links k []) w t)

extended : {links : List (List ℕ)} {n a b c : ℕ} → Reaches links n a b → Contains (slice_index_or links b []) c → Reaches links (suc n) a c
extended here h = there h here
extended (there k r) h = there k (extended r h)

not_back : {links : List (List ℕ)} {k : ℕ} → Ends links k → (n : ℕ) → Reaches links (suc n) k k → ⊥
not_back (ends f) n (there {j = j} h r) = not_back (f j h) n (extended r h)

-- a type is on no cycle where no way leads back to it
pub no_cycle_unless : (links : List (List ℕ)) (k : ℕ) → ((n : ℕ) → Reaches links (suc n) k k → ⊥) → cycle_of links k ≡ None
no_cycle_unless links k none = first_is_none (λ n. slice_index_or (ways_to links k n) k None) 1 (length links) (λ n from within. by_way n from (slice_index_or (ways_to links k n) k None) refl)
  where
    by_way : (n : ℕ) → 1 ≤ n → (o : Option (List ℕ)) → slice_index_or (ways_to links k n) k None ≡ o → slice_index_or (ways_to links k n) k None ≡ None
    by_way n from None e = e
    by_way zero from (Some way) e = absurd (omega arith)
    by_way (suc n) from (Some way) e = absurd (none n (way_reaches links k (suc n) k way e))

-- a type that ends is on no cycle
pub no_cycle_of : (links : List (List ℕ)) (k : ℕ) → Ends links k → cycle_of links k ≡ None
no_cycle_of links k h = no_cycle_unless links k (not_back h)

-- a type is on no cycle where it has no way back in so many steps, and no type has one in one step more
pub none_by : (links : List (List ℕ)) (to n : ℕ) → ((m : ℕ) → 1 ≤ m → m ≤ n → slice_index_or (ways_to links to m) to None ≡ None) → ((k : ℕ) → slice_index_or (ways_to links to (n + 1)) k None ≡ None) → cycle_of links to ≡ None
none_by links to n few more = first_is_none (λ m. slice_index_or (ways_to links to m) to None) 1 (length links) (λ m from within. elim (cases_lt n m) [
  | inl h ↦ no_more_ways links to (n + 1) m (omega arith) more to
  | inr h ↦ few m from h
])
