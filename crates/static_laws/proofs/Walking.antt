-- How far one can walk from a type, where no type is made from itself.
use Rattle.std.proofs.Common.{ℕ, zero, suc, ◌≡◌, ◌∙◌, ◌<◌, refl, ap, subst, List, [], ◌∷◌, length, map, Some, None, arith}
use Rattle.std.specs.Prelude.{option_map}
use Rattle.std.specs.List.{Contains, slice_get, slice_index_or}
use Rattle.std.proofs.lemmas.Option.{slice_get-map, get_or_from_slice_get}
use Rattle.type_cycles.specs.MadeFrom.{AreAcyclic}
use Rattle.static_call_cycles.proofs.Walks.{Walks, acyclic_short}

-- each walk from the type has fewer steps than these
abbrev pub IsShort : List (List ℕ) → ℕ → ℕ → Type 0
IsShort links n k = (xs : List ℕ) (to : ℕ) → to < length links → Walks links k xs to → length xs < n

pub all-short : (links : List (List ℕ)) → AreAcyclic links → (k : ℕ) → IsShort links (length links) k
all-short links acyclic k xs to within w = acyclic_short links acyclic k xs to within w

pub short-next : (links : List (List ℕ)) (n k j : ℕ) → IsShort links (suc n) k → Contains (slice_index_or links k []) j → IsShort links n j
short-next links n k j short c xs to within w = omega (arith, short (k ∷ xs) to within (refl, (j, c, w)))

pub none-short : (links : List (List ℕ)) (k : ℕ) → k < length links → IsShort links 0 k → ⊥
none-short links k within short = omega (arith, short [] k within refl)

-- what a table that is made of a list has at a number: what is made of the element there, or nothing
pub data IsMadeAt {D A : Type 0} (nothing : A) (make : D → A) (all : List D) (table : List A) (k : ℕ) : Type 0 where
  made : (d : D) → slice_get all k ≡ Some d → slice_index_or table k nothing ≡ make d → IsMadeAt nothing make all table k
  past : slice_get all k ≡ None → slice_index_or table k nothing ≡ nothing → IsMadeAt nothing make all table k

mapped-at : {D A : Type 0} (nothing : A) (make : D → A) (all : List D) (k : ℕ) → IsMadeAt nothing make all (map make all) k
mapped-at nothing make [] k = past refl refl
mapped-at nothing make (d ∷ ds) zero = made d refl refl
mapped-at nothing make (d ∷ ds) (suc k) = later (mapped-at nothing make ds k)
  where
    later : IsMadeAt nothing make ds (map make ds) k → IsMadeAt nothing make (d ∷ ds) (map make (d ∷ ds)) (suc k)
    later (made e at is) = made e at is
    later (past at is) = past at is

pub made-at : {D A : Type 0} (nothing : A) (make : D → A) (all : List D) (table : List A) → map make all ≡ table → (k : ℕ) → IsMadeAt nothing make all table k
made-at nothing make all table e k = subst (λ t. IsMadeAt nothing make all t k) e (mapped-at nothing make all k)

-- what a list has at the place of an element of another, through a function
pub image-at : {D A : Type 0} (nothing : A) (make : D → A) (all : List D) (k : ℕ) (d : D) → slice_get all k ≡ Some d → slice_index_or (map make all) k nothing ≡ make d
image-at nothing make all k d at = get_or_from_slice_get (map make all) k (make d) nothing (slice_get-map make all k ∙ ap (option_map make) at)
