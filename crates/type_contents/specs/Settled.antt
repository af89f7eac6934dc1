-- Tables that are made each element once, where those from which one is made are made before it.
use Rattle.std.specs.Prelude.{ℕ, ◌≡◌, ◌≤◌, Bool, ◌||◌, nat_le, List, length, map, Option, Some, None, is_some, unwrap_or}
use Rattle.std.specs.List.{list_all, slice_index_or}
use Rattle.type_contents.specs.Rounds as rounds

-- whether an element of this number is there already, or isn't one of the list
abbrev pub is_ready : {A : Type 0} → List (Option A) → ℕ → Bool
is_ready found k = nat_le (length found) k || is_some (slice_index_or found k None)

abbrev pub are_ready : {A : Type 0} → List (Option A) → List ℕ → Bool
are_ready found used = list_all (is_ready found) used

-- what has been found, and nothing for the others
abbrev pub known : {A : Type 0} → A → List (Option A) → List A
known nothing found = map (λ x. unwrap_or x nothing) found

-- what has been found is what each round from the n-th on makes
abbrev pub IsSettled : {D A : Type 0} → A → (List A → D → A) → List D → List (Option A) → ℕ → Type 0
IsSettled {D} {A} nothing make all found n = (k : ℕ) (x : A) → slice_index_or found k None ≡ Some x → (m : ℕ) → n ≤ m
    → slice_index_or (rounds.rounds nothing make all m) k nothing ≡ x
