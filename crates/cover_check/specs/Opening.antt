-- Partial operations and open sorts, as they are found. (This profile.)
use Rattle.std.specs.Prelude.{ℕ, ◌≡◌, ◌⊎◌, ◌↔◌, List, Bool, Option, Some}
use Rattle.std.specs.List.{slice_get}
use Rattle.equation_sets.specs.Members.{IsIn}
use Rattle.spec_core.specs.Cover.{IsPartial}
use Rattle.spec_core.specs.Lists.{OneOf}
use Rattle.spec_core.specs.OpenSorts.{IsOfSort, IsOpen}
use Rattle.spec_core.specs.Theories.{Operation, Premise, ConditionalEquation, Theory, Heads}

-- the set has just the partial operations
abbrev pub ArePartial : Theory → List Bool → Type 0
ArePartial theory set = (f : ℕ) → IsIn f set ↔ IsPartial theory f

-- the set has just the open sorts
abbrev pub AreOpen : Theory → List Bool → Type 0
AreOpen theory set = (s : ℕ) → IsIn s set ↔ IsOpen theory s

-- each sort of the set is open
abbrev pub AllOpen : Theory → List Bool → Type 0
AllOpen theory set = (s : ℕ) → IsIn s set → IsOpen theory s

-- the sides of the premise are of a sort of the set, over variables of these sorts
abbrev pub PremiseAsksIn : Theory → (ℕ → Option ℕ) → List Bool → Premise → Type 0
PremiseAsksIn theory vars set p = (s : ℕ) × IsOfSort theory vars s p × IsIn s set

-- the equation has such a premise
abbrev pub EquationAsksIn : Theory → List Bool → ConditionalEquation → Type 0
EquationAsksIn theory set e = OneOf (PremiseAsksIn theory (slice_get e.sorts) set) e.premises

-- the operation heads such an equation
abbrev pub AsksIn : Theory → List Bool → ℕ → Type 0
AsksIn theory set f = OneOf (λ e. Heads f e × EquationAsksIn theory set e) theory.equations

-- the operation, which has these argument sorts, is partial, or has an argument of a sort of the set, or asks a premise whose sides are of
-- one
abbrev pub GivesOpen : Theory → List Bool → ℕ → List ℕ → Type 0
GivesOpen theory set f args = IsPartial theory f ⊎ OneOf (λ s. IsIn s set) args ⊎ AsksIn theory set f

-- where that is so, the operation's result sort is in the set
abbrev pub IsClosedFor : Theory → List Bool → ℕ → Type 0
IsClosedFor theory set f =
    (d : Operation) → slice_get theory.operations f ≡ Some d → GivesOpen theory set f d.args → IsIn d.result set
