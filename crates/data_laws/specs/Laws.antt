-- Laws of executable data: each ground term has one value, and ground terms are equal exactly where they have the same value.
use Rattle.std.specs.Prelude.{ℕ, ◌≡◌, ◌↔◌, List, Bool, IsTrue, Option, Some}
use Rattle.std.specs.List.{Contains}
use Rattle.spec_core.specs.Lists.{Each, IsOneOf}
use Rattle.spec_core.specs.Terms.{TermTree, instance, Occurs, preorder}
use Rattle.spec_core.specs.Theories.{Premise, premise, ConditionalEquation, Theory}
use Rattle.spec_core.specs.Sorts.{HasSort, FitsGround, no_variables}
use Rattle.spec_core.specs.Constructors.{IsConstructed}
use Rattle.spec_core.specs.OpenSorts.{IsOpen}
use Rattle.spec_core.specs.Equality.{Equal, IsGroundFor}
use Rattle.spec_core.specs.Values.{IsValue, HasValue}
use Rattle.spec_core.specs.Evaluation.{Evaluates}
use Rattle.spec_core.specs.Executable.{IsExecutable}
use Rattle.spec_core.specs.Windows.{IsWindow}

-- each ground term evaluates to exactly one value, at one cost
abbrev pub EachGroundTermEvaluates : Type 0
EachGroundTermEvaluates =
    (theory : Theory) →
    IsExecutable theory →
    (t : TermTree) →
    FitsGround theory t →
    (v : TermTree) × (n : ℕ) × Evaluates theory t v n × ((w : TermTree) (m : ℕ) → Evaluates theory t w m → (v ≡ w) × (n ≡ m))

-- each ground term has exactly one value
abbrev pub EachGroundTermHasOneValue : Type 0
EachGroundTermHasOneValue =
    (theory : Theory) →
    IsExecutable theory →
    (t : TermTree) →
    FitsGround theory t →
    (v : TermTree) × HasValue theory t v × ((w : TermTree) → HasValue theory t w → v ≡ w)

-- a ground term's value is what it evaluates to
abbrev pub EvaluationReachesValues : Type 0
EvaluationReachesValues =
    (theory : Theory) →
    IsExecutable theory →
    (t v : TermTree) →
    FitsGround theory t →
    HasValue theory t v ↔ ((n : ℕ) × Evaluates theory t v n)

-- two terms are equal exactly where their values are the same
abbrev pub EqualityIsOfValues : Type 0
EqualityIsOfValues =
    (theory : Theory) →
    IsExecutable theory →
    (a b v w : TermTree) →
    HasValue theory a v →
    HasValue theory b w →
    Equal theory a b ↔ (v ≡ w)

-- some term is the value of both
abbrev pub HaveOneValue : Theory → TermTree → TermTree → Type 0
HaveOneValue theory a b = (v : TermTree) × HasValue theory a v × HasValue theory b v

-- under the substitution both sides of the premise have one value
abbrev pub PremiseHasOneValue : Theory → (ℕ → TermTree) → Premise → Type 0
PremiseHasOneValue theory s (premise a b) = HaveOneValue theory (instance s a) (instance s b)

-- a term has at most one value and one cost
abbrev pub TermsHaveOneValueAndCost : Type 0
TermsHaveOneValueAndCost =
    (theory : Theory) →
    IsExecutable theory →
    (t v w : TermTree) (n m : ℕ) →
    Evaluates theory t v n →
    Evaluates theory t w m →
    (v ≡ w) × (n ≡ m)

-- a term under a substitution has the value that it has under the substitution's values
abbrev pub SubstitutionsGoByValues : Type 0
SubstitutionsGoByValues =
    (theory : Theory) →
    IsExecutable theory →
    (vars : ℕ → Option ℕ) (s z : ℕ → TermTree) (t : TermTree) (sort : ℕ) →
    HasSort theory vars t sort →
    ((x a : ℕ) → Occurs x t → vars x ≡ Some a → HasSort theory no_variables (s x) a) →
    ((x : ℕ) → Occurs x t → HasValue theory (s x) (z x)) →
    HaveOneValue theory (instance s t) (instance z t)

-- a value evaluates to itself, at some cost
abbrev pub ValuesHaveThemselves : Type 0
ValuesHaveThemselves = (theory : Theory) → IsExecutable theory → (v : TermTree) → IsValue theory v → (n : ℕ) × Evaluates theory v v n

-- where the sides of each premise of an equation's instance have one value, so have the instance's two sides
abbrev pub EquationSidesHaveOneValue : Type 0
EquationSidesHaveOneValue =
    (theory : Theory) →
    IsExecutable theory →
    (e : ConditionalEquation) (s : ℕ → TermTree) →
    IsOneOf e theory.equations →
    IsGroundFor theory e s →
    Each (PremiseHasOneValue theory s) e.premises →
    HaveOneValue theory (instance s e.left) (instance s e.right)

-- a ground constructor term is a value
abbrev pub ConstructorTermsAreValues : Type 0
ConstructorTermsAreValues =
    (theory : Theory) → IsExecutable theory → (t : TermTree) → FitsGround theory t → IsConstructed theory t → IsValue theory t

-- a value of a sort that isn't open is a ground constructor term
abbrev pub ValuesOfClosedSorts : Type 0
ValuesOfClosedSorts =
    (theory : Theory) →
    IsExecutable theory →
    (v : TermTree) (sort : ℕ) →
    IsValue theory v →
    HasSort theory no_variables v sort →
    (IsOpen theory sort → ⊥) →
    IsConstructed theory v

-- a complete window of a sort holds each value of the sort
abbrev pub CompleteWindowsHoldAllValues : Type 0
CompleteWindowsHoldAllValues =
    (theory : Theory) →
    IsExecutable theory →
    (sort k : ℕ) (values : List (List ℕ)) (complete : Bool) →
    IsWindow theory sort k values complete →
    IsTrue complete →
    (v : TermTree) →
    IsValue theory v →
    HasSort theory no_variables v sort →
    Contains values (preorder v)
