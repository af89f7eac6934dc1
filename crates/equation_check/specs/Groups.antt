-- The equations that each operation heads.
use Rattle.std.specs.Prelude.{ℕ, ◌≡◌, ◌<◌, ◌≤◌, nat_eq, List, [], ◌∷◌, Option, None, Some, Vec, length, map, if◌then◌else◌}
use Rattle.std.proofs.Common.{Bor}
use Rattle.std.specs.List.{slice_get}
use Rattle.std.specs.Option.{option_map_or}
use Rattle.std.specs.declared.alloc.Global.{Global}
use Rattle.indexmap.specs.IndexMap.{get}
use Rattle.equation_check.specs.declared.groups.Group.{Group}
use Rattle.spec_core.specs.declared.equation.Equation.{Equation}
use Rattle.spec_core.specs.Lists.{Each, IsOneOf}
use Rattle.spec_core.specs.Orthogonality.{AreApart}
use Rattle.spec_core.specs.Terms.{TermTree, TermTrees, variable, apply, no_terms, and_term}
use Rattle.spec_core.specs.Theories.{ConditionalEquation, Theory, Heads, equation_of}
use Rattle.equation_faults.specs.Faults.{IsWellFormed}

-- the second list has those elements of the first of which P holds, in their order
pub data AreChosen {A : Type 0} (P : A → Type 0) : List A → List A → Type 0 where
  none : AreChosen P [] []
  chosen : {x : A} {xs ys : List A} → P x → AreChosen P xs ys → AreChosen P (x ∷ xs) (x ∷ ys)
  left_out : {x : A} {xs ys : List A} → (P x → ⊥) → AreChosen P xs ys → AreChosen P (x ∷ xs) ys

abbrev pub seen : Bor Equation → ConditionalEquation
seen e = equation_of e.now

-- the group of an operation; one that has none has an empty one
abbrev pub members : Option Group → List ConditionalEquation
members None = []
members (Some group) = map seen group.equations.items

abbrev pub group_of : List Group → ℕ → List ConditionalEquation
group_of groups f = members (slice_get groups f)

-- the group of each operation has the well-formed equations of these that it heads
abbrev pub AreGroups : Theory → List ConditionalEquation → List Group → Type 0
AreGroups theory es groups = (f : ℕ) → AreChosen (λ e. IsWellFormed theory e × Heads f e) es (group_of groups f)

-- the operation of a term that isn't a variable
abbrev pub operation_at : TermTree → Option ℕ
operation_at (variable x) = None
operation_at (apply f ts) = Some f

abbrev pub first_operation : TermTrees → Option ℕ
first_operation no_terms = None
first_operation (and_term t ts) = operation_at t

-- the operation of the first argument of a left side, if it has one that isn't a variable
abbrev pub argument : TermTree → Option ℕ
argument (variable x) = None
argument (apply f ts) = first_operation ts

-- the places that a group has for such an operation, or for none
abbrev pub places_at : Group → Option ℕ → List ℕ
places_at group None = group.others.items
places_at group (Some f) = option_map_or (λ (places : Vec ℕ Global). places.items) (get nat_eq group.places f) []

-- a place as a list, where these are one
abbrev pub place_if : Option ℕ → Option ℕ → ℕ → List ℕ
place_if None None place = place ∷ []
place_if (Some f) (Some g) place = if nat_eq f g then place ∷ [] else []
place_if None (Some g) place = []
place_if (Some f) None place = []

-- the group has places of its equations alone, and that of each equation where its first argument says
pub record IsIndexed (group : Group) : Type 0 where
  pub within : (o : Option ℕ) → Each (λ place. place < length group.equations.items) (places_at group o)
  pub whole : (place : ℕ) (e : ConditionalEquation) → slice_get (map seen group.equations.items) place ≡ Some e →
      IsOneOf place (places_at group (argument e.left))

-- the equation at this place, if there is one, is apart from a later one
abbrev pub IsApartAt : Theory → List ConditionalEquation → ConditionalEquation → ℕ → Type 0
IsApartAt theory es later place = (e : ConditionalEquation) → slice_get es place ≡ Some e → AreApart theory e later

-- the equation at this place isn't
abbrev pub IsOverlappedAt : Theory → List ConditionalEquation → ConditionalEquation → ℕ → Type 0
IsOverlappedAt theory es later place = (e : ConditionalEquation) × (slice_get es place ≡ Some e) × (AreApart theory e later → ⊥)

-- the least of a bound and of places at which an equation isn't apart from a later one
pub record IsLeast (theory : Theory) (es : List ConditionalEquation) (later : ConditionalEquation) (places : List ℕ) (bound least : ℕ) : Type 0 where
  pub bounded : least ≤ bound
  pub holds : least < bound → IsOverlappedAt theory es later least
  pub before : Each (λ place. place < least → IsApartAt theory es later place) places
