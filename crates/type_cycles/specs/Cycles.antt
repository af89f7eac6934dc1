-- Cycles of types. A type goes by its number in the list of types, from 0. Of each type there is given of which others it is made, in the
-- order of mention; a number past the end stands for no type. A way goes from a type to one of which it is made, from there on likewise.
use Rattle.std.specs.Prelude.{ℕ, zero, suc, ◌==◌, List, [], ◌∷◌, map, length, Option, Some, None, option_map, if◌then◌else◌}
use Rattle.std.specs.List.{slice_index_or, range_with_len}
use Rattle.std.specs.Option.{option_or}

-- the first of what f gives of the elements that is there
abbrev pub first_some : {A B : Type 0} → (A → Option B) → List A → Option B
first_some f [] = None
first_some f (x ∷ xs) = option_or (f x) (first_some f xs)

-- the way of a type by the first of those of which it is made that has one
abbrev pub way_from : List (Option (List ℕ)) → ℕ → List ℕ → Option (List ℕ)
way_from ways k used = option_map (λ way. k ∷ way) (first_some (λ j. slice_index_or ways j None) used)

-- of each type the first way to one type in just so many steps, by order of mention: the types on it without the last
abbrev pub ways_to : List (List ℕ) → ℕ → ℕ → List (Option (List ℕ))
ways_to links to zero = map (λ k. if k == to then Some [] else None) (range_with_len 0 (length links))
ways_to links to (suc n) = map (λ k. way_from (ways_to links to n) k (slice_index_or links k [])) (range_with_len 0 (length links))

-- the first of the shortest ways from a type back to itself; none needs more steps than there are types
abbrev pub cycle_of : List (List ℕ) → ℕ → Option (List ℕ)
cycle_of links k = first_some (λ n. slice_index_or (ways_to links k n) k None) (range_with_len 1 (length links))

-- that of the first type that has one
abbrev pub first_cycle : List (List ℕ) → Option (List ℕ)
first_cycle links = first_some (cycle_of links) (range_with_len 0 (length links))
