-- Laws of the definitions.
use Rattle.std.specs.Prelude.{ℕ, ◌≡◌, ◌↔◌, ◌⊎◌, List, [], ◌∷◌, Option, Bool}
use Rattle.spec_core.specs.Booleans.{booleans, half_booleans}
use Rattle.spec_core.specs.Lists.{Each, OneOf, IsOneOf, NoTwo}
use Rattle.spec_core.specs.Terms.{TermTree, TermTrees, apply, no_terms, and_term, constant, instance, IsGround, preorder}
use Rattle.spec_core.specs.Theories.{Premise, premise, ConditionalEquation, Theory}
use Rattle.spec_core.specs.Sorts.{HasSort, FitsGround, no_variables}
use Rattle.spec_core.specs.Constructors.{IsConstructor, IsConstructed}
use Rattle.spec_core.specs.Equality.{Equal, AreEqual, PremisesHold, IsGroundFor, EqualityProof, Concludes}
use Rattle.spec_core.specs.Values.{IsValue}
use Rattle.spec_core.specs.Evaluation.{Evaluates, EvaluatesAll}
use Rattle.spec_core.specs.Orthogonality.{HasNoLooseVariables}
use Rattle.spec_core.specs.Order.{IsInsideAny, IsBelow}
use Rattle.spec_core.specs.Cover.{IsFull, IsConstant, HasConstants, IsPartial}
use Rattle.spec_core.specs.OpenSorts.{IsOpen}
use Rattle.spec_core.specs.Executable.{IsExecutable}
use Rattle.spec_core.specs.Windows.{IsWindow, IsInOrder}

-- provable equality is an equivalence on the ground terms
abbrev pub EqualIsReflexive : Type 0
EqualIsReflexive = (theory : Theory) (t : TermTree) → FitsGround theory t → Equal theory t t

abbrev pub EqualIsSymmetric : Type 0
EqualIsSymmetric = (theory : Theory) (a b : TermTree) → Equal theory a b → Equal theory b a

abbrev pub EqualIsTransitive : Type 0
EqualIsTransitive = (theory : Theory) (a b c : TermTree) → Equal theory a b → Equal theory b c → Equal theory a c

-- equal arguments give equal results
abbrev pub EqualIsCongruent : Type 0
EqualIsCongruent =
    (theory : Theory) (f : ℕ) (ts us : TermTrees) →
    FitsGround theory (apply f ts) →
    AreEqual theory ts us →
    Equal theory (apply f ts) (apply f us)

-- the sides of an equation's instance are equal where the instances of its premises hold
abbrev pub InstancesAreEqual : Type 0
InstancesAreEqual =
    (theory : Theory) (e : ConditionalEquation) (s : ℕ → TermTree) →
    IsOneOf e theory.equations →
    IsGroundFor theory e s →
    PremisesHold theory s e.premises →
    Equal theory (instance s e.left) (instance s e.right)

-- two terms are equal exactly where some proof concludes it
abbrev pub EqualTermsHaveProofs : Type 0
EqualTermsHaveProofs = (theory : Theory) (a b : TermTree) → Equal theory a b ↔ ((p : EqualityProof) × Concludes theory p a b)

-- a term has at most one value, at one cost
abbrev pub EvaluationIsDeterministic : Type 0
EvaluationIsDeterministic =
    (theory : Theory) →
    Each HasNoLooseVariables theory.equations →
    (t v w : TermTree) (n m : ℕ) →
    Evaluates theory t v n →
    Evaluates theory t w m →
    (v ≡ w) × (n ≡ m)

-- a constructor over terms has as value the constructor over their values, at their cost
abbrev pub ConstructorsKeepValues : Type 0
ConstructorsKeepValues =
    (theory : Theory) →
    IsExecutable theory →
    (f : ℕ) (ts vs : TermTrees) (n : ℕ) →
    IsConstructor theory f →
    EvaluatesAll theory ts vs n →
    Evaluates theory (apply f ts) (apply f vs) n

-- a ground constructor term evaluates to itself without a use
abbrev pub ConstructorTermsStay : Type 0
ConstructorTermsStay = (theory : Theory) → IsExecutable theory → (v : TermTree) → IsConstructed theory v → Evaluates theory v v 0

-- what a term evaluates to is provably equal to it
abbrev pub EvaluationIsSound : Type 0
EvaluationIsSound =
    (theory : Theory) →
    IsExecutable theory →
    (t v : TermTree) (n : ℕ) →
    FitsGround theory t →
    Evaluates theory t v n →
    Equal theory t v

abbrev pub ValuesAreGround : Type 0
ValuesAreGround = (theory : Theory) (v : TermTree) → IsValue theory v → IsGround v

-- what stands in an argument of a left side is below it
abbrev pub PartsOfArgumentsAreBelow : Type 0
PartsOfArgumentsAreBelow = (theory : Theory) (f : ℕ) (ps : TermTrees) (u : TermTree) → IsInsideAny u ps → IsBelow theory f ps u

-- no left side is below itself
abbrev pub LeftSidesAreNotBelowThemselves : Type 0
LeftSidesAreNotBelowThemselves =
    (theory : Theory) →
    IsExecutable theory →
    (e : ConditionalEquation) (f : ℕ) (ps : TermTrees) →
    IsOneOf e theory.equations →
    e.left ≡ apply f ps →
    IsBelow theory f ps e.left →
    ⊥

-- lists of premises of which one is empty are full
abbrev pub UnconditionalGroupsAreFull : Type 0
UnconditionalGroupsAreFull =
    (theory : Theory) (vars : ℕ → Option ℕ) (lists : List (List Premise)) → OneOf (λ l. l ≡ []) lists → IsFull theory vars lists

-- each value of a window spells a ground term of the sort
abbrev pub WindowsHoldGroundTerms : Type 0
WindowsHoldGroundTerms =
    (theory : Theory) (sort k : ℕ) (values : List (List ℕ)) (complete : Bool) →
    IsWindow theory sort k values complete →
    Each (λ v. (t : TermTree) × (v ≡ preorder t) × HasSort theory no_variables t sort × IsGround t) values

-- the values of a window are in order, and no two are equal
abbrev pub WindowsAreInOrder : Type 0
WindowsAreInOrder =
    (theory : Theory) (sort k : ℕ) (values : List (List ℕ)) (complete : Bool) →
    IsWindow theory sort k values complete →
    IsInOrder values × NoTwo (λ v w. v ≡ w) values

-- where a sort has the two constants c and d alone, the premises t = c and t = d are full
abbrev pub OppositePremisesAreFull : Type 0
OppositePremisesAreFull =
    (theory : Theory) (vars : ℕ → Option ℕ) (t : TermTree) (sort c d : ℕ) →
    HasSort theory vars t sort →
    HasConstants theory sort →
    IsConstructor theory c →
    IsConstructor theory d →
    ((k : ℕ) → IsConstant theory sort k → (k ≡ c) ⊎ (k ≡ d)) →
    IsFull theory vars ((premise t (constant c) ∷ []) ∷ (premise t (constant d) ∷ []) ∷ [])

-- truth values with their negation are executable data
abbrev pub BooleansAreExecutable : Type 0
BooleansAreExecutable = IsExecutable booleans

-- none of their operations is partial, so their sort has no other values than the two constants
abbrev pub BooleansAreClosed : Type 0
BooleansAreClosed = (sort : ℕ) → IsOpen booleans sort → ⊥

-- with one of the two equations the negation is partial, its sort is open, and not(false) is a value
pub record HalfNegationIsPartial : Type 0 where
  pub executable : IsExecutable half_booleans
  pub partial : IsPartial half_booleans 2
  pub open_sort : IsOpen half_booleans 0
  pub value : IsValue half_booleans (apply 2 (and_term (constant 1) no_terms))
