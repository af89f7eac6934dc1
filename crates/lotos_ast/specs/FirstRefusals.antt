-- The first of the refusals that hold of a text. In each part of the front end the earliest place answers (this profile), at one place the
-- smallest number, and of those that stand together what is listed first.
use Rattle.std.specs.Prelude.{◌≡◌, Bool, true, false, ◌&&◌, ◌||◌, ◌==◌, nat_lt, List, ◌∷◌, ◌++◌, Option, Some, None, if◌then◌else◌}
use Rattle.std.specs.List.{fold, Contains}
use Rattle.lotos_ast.specs.declared.refusal.Refusal.{Refusal}
use Rattle.lotos_ast.specs.Refusals.{number_of}

-- one refusal comes before another: it stands in an earlier line, or there at an earlier column, or at the same place with a smaller number
abbrev pub comes_before : Refusal → Refusal → Bool
comes_before r s =
    nat_lt r.place.line s.place.line
    || ((r.place.line == s.place.line) && (nat_lt r.place.column s.place.column
    || ((r.place.column == s.place.column) && nat_lt (number_of r.kind) (number_of s.kind))))

-- the first of two, each of which may be missing: the second only where it comes before the first
abbrev pub sooner : Option Refusal → Option Refusal → Option Refusal
sooner None other = other
sooner (Some one) None = Some one
sooner (Some one) (Some other) = if comes_before other one then Some other else Some one

-- the first of a list
abbrev pub first_refusal : List Refusal → Option Refusal
first_refusal refusals = fold (λ found r. sooner found (Some r)) None refusals

-- the first of all of which P holds: P holds of it, and of none that comes before it; no one is the first where P holds of none
abbrev pub IsFirst : (Refusal → Type 0) → Option Refusal → Type 0
IsFirst P None = (s : Refusal) → P s → ⊥
IsFirst P (Some r) = P r × ((s : Refusal) → P s → comes_before s r ≡ false)

-- where it stands in a list: it comes before each that stands before it, and none that stands behind it comes before it
pub record StandsFirst (refusals : List Refusal) (r : Refusal) : Type 0 where
  pub before : List Refusal
  pub behind : List Refusal
  pub parts : refusals ≡ before ++ r ∷ behind
  pub sooner_than : (s : Refusal) → Contains before s → comes_before r s ≡ true
  pub none_sooner : (s : Refusal) → Contains behind s → comes_before s r ≡ false

-- the first of a list is the first of those in it
abbrev pub FirstOfAListIsFirst : Type 0
FirstOfAListIsFirst = (refusals : List Refusal) → IsFirst (Contains refusals) (first_refusal refusals)

abbrev pub FirstOfAListStandsFirst : Type 0
FirstOfAListStandsFirst = (refusals : List Refusal) (r : Refusal) → first_refusal refusals ≡ Some r → StandsFirst refusals r
