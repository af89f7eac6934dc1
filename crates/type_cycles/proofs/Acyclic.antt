-- There is a first cycle exactly where a type is made from itself.
use Rattle.std.proofs.Common.{ℕ, zero, suc, ◌≡◌, ◌<◌, ◌≤◌, ◌+◌, ◌⊎◌, inl, inr, List, [], ◌∷◌, length, arith, ap, subst, sym, ◌∙◌, refl, Option, Some, None, nat_eq}
use Rattle.std.specs.Prelude.{if◌then◌else◌, ◌==◌}
use Rattle.std.specs.List.{range_with_len, slice_index_or, Contains}
use Rattle.std.proofs.lemmas.List.FromFn.{get_or-map-range_with_len}
use Rattle.std.proofs.lemmas.Bool.{eq-eqb}
use Rattle.std.proofs.lemmas.Map.Keys.{IsDistinct-cons}
use Rattle.std.proofs.lemmas.Map.Steps.{length-le_from_distinct_below}
use Rattle.type_cycles.specs.Cycles.{ways_to, cycle_of, first_cycle}
use Rattle.type_cycles.specs.MadeFrom.{IsMadeFrom, AreAcyclic, NoCycleWhereAcyclic}
use Rattle.type_cycles.proofs.Firsts.{first_is_none, none_in_range}
use Rattle.type_cycles.proofs.Reached.{Reaches, here, there, no_cycle_unless, no_way_onward}
use Rattle.type_cycles.proofs.Walks.{Walks, Direct, direct, linked_within, walk_within, made_walk, all_apart}

no_some : {B : Type 0} (b : B) → Some b ≡ None → ⊥
no_some b e = cc

next_within : (links : List (List ℕ)) (j : ℕ) (xs : List ℕ) (to : ℕ) → to < length links → Walks links j xs to → j < length links
next_within links j [] to within w = subst (λ z. z < length links) (sym w) within
next_within links j (x ∷ xs) to within (e, (i, c, w)) = linked_within links j i c

-- a type from which one can walk has a way of as many steps
walked : (links : List (List ℕ)) (to : ℕ) → to < length links → (xs : List ℕ) (k : ℕ) → Walks links k xs to → slice_index_or (ways_to links to (length xs)) k None ≡ None → ⊥
walked links to within [] k w e =
    no_some [] (sym (ap (λ b. if b then Some [] else None) (eq-eqb k to w)) ∙ sym (get_or-map-range_with_len (λ k. if k == to then Some [] else None) 0 (length links) k k None (next_within links k [] to within w) (omega arith)) ∙ e)
walked links to within (x ∷ xs) k (same, (j, c, w)) e = walked links to within xs j w (no_way_onward links to (length xs) k j c e)

-- a type that is made from itself is so in no more steps than there are types
found : (links : List (List ℕ)) (k j : ℕ) → Contains (slice_index_or links k []) j → Direct links j k → cycle_of links k ≡ None → ⊥
found links k j c r e = walked links k (linked_within links k j c) (k ∷ r.types) k whole
    (none_in_range (λ n. slice_index_or (ways_to links k n) k None) 1 (length links) (length (k ∷ r.types)) e (omega arith) (omega (arith, bounded)))
  where
    whole : Walks links k (k ∷ r.types) k
    whole = (refl, (j, c, r.walk))

    bounded : length (k ∷ r.types) ≤ length links
    bounded = length-le_from_distinct_below (k ∷ r.types) (length links) (IsDistinct-cons nat_eq k r.types (all_apart k r.types r.not_the_end) r.distinct) (λ q h. walk_within links k (k ∷ r.types) k q whole h)

no_cycle_acyclic : (links : List (List ℕ)) → first_cycle links ≡ None → AreAcyclic links
no_cycle_acyclic links e k m = by_walk (made_walk m)
  where
    by_walk : (xs : List ℕ) × Walks links k (k ∷ xs) k → ⊥
    by_walk (xs, (same, (j, c, w))) = found links k j c (direct links j xs k w) (none_in_range (cycle_of links) 0 (length links) k e (omega arith) (omega (arith, linked_within links k j c)))

steps_made : {links : List (List ℕ)} {n k to : ℕ} → Reaches links (suc n) k to → IsMadeFrom links k to
steps_made (there c here) = IsMadeFrom.directly c
steps_made (there c (there d r)) = IsMadeFrom.through c (steps_made (there d r))

acyclic_no_cycle : (links : List (List ℕ)) → AreAcyclic links → first_cycle links ≡ None
acyclic_no_cycle links acyclic = first_is_none (cycle_of links) 0 (length links) (λ k from within. no_cycle_unless links k (λ n r. acyclic k (steps_made r)))

pub no_cycle_where_acyclic : NoCycleWhereAcyclic
no_cycle_where_acyclic links = (no_cycle_acyclic links, acyclic_no_cycle links)
