-- Sorts of terms, and data whose parts fit together. (ISO 8807, ACT ONE: terms over a signature.)
use Rattle.std.specs.Prelude.{ℕ, ◌≡◌, ◌<◌, ◌^◌, List, [], ◌∷◌, Option, Some, None, length}
use Rattle.std.specs.List.{slice_get}
use Rattle.spec_core.specs.Lists.{Each}
use Rattle.spec_core.specs.Terms.{TermTree, TermTrees, variable, apply, no_terms, and_term}
use Rattle.spec_core.specs.Theories.{Operation, Premise, premise, ConditionalEquation, Theory}

-- the sorts of no variables
abbrev pub no_variables : ℕ → Option ℕ
no_variables x = None

-- P holds of what is there
abbrev pub OnSome : {A : Type 0} → Option A → (A → Type 0) → Type 0
OnSome None P = ⊥
OnSome (Some x) P = P x

-- a term over the signature has this sort, with these sorts of its variables: each operation has as many arguments as it is
-- declared with, each of the declared sort
abbrev mutual
  pub HasSort : Theory → (ℕ → Option ℕ) → TermTree → ℕ → Type 0
  HasSort theory vars (variable x) sort = vars x ≡ Some sort
  HasSort theory vars (apply f ts) sort = OnSome (slice_get theory.operations f) (λ d. (d.result ≡ sort) × HaveSorts theory vars ts d.args)

  pub HaveSorts : Theory → (ℕ → Option ℕ) → TermTrees → List ℕ → Type 0
  HaveSorts theory vars no_terms [] = Unit {0}
  HaveSorts theory vars (and_term t ts) (s ∷ sorts) = HasSort theory vars t s × HaveSorts theory vars ts sorts
  HaveSorts theory vars no_terms (s ∷ sorts) = ⊥
  HaveSorts theory vars (and_term t ts) [] = ⊥

-- a ground term over the signature
abbrev pub FitsGround : Theory → TermTree → Type 0
FitsGround theory t = (sort : ℕ) × HasSort theory no_variables t sort

-- two terms of one sort
abbrev pub HaveOneSort : Theory → (ℕ → Option ℕ) → TermTree → TermTree → Type 0
HaveOneSort theory vars a b = (sort : ℕ) × HasSort theory vars a sort × HasSort theory vars b sort

-- the sort is of the signature
abbrev pub IsDeclaredSort : Theory → ℕ → Type 0
IsDeclaredSort theory sort = sort < length theory.sorts

-- each sort of a declared operation is of the signature
abbrev pub OperationFits : Theory → Operation → Type 0
OperationFits theory d = IsDeclaredSort theory d.result × Each (IsDeclaredSort theory) d.args

abbrev pub PremiseFits : Theory → (ℕ → Option ℕ) → Premise → Type 0
PremiseFits theory vars (premise a b) = HaveOneSort theory vars a b

-- an equation's variables have names and sorts, and its sides, as those of each premise, are terms of one sort over them
pub record EquationFits (theory : Theory) (e : ConditionalEquation) : Type 0 where
  pub one_name_each : length e.names ≡ length e.sorts
  pub sorts : Each (IsDeclaredSort theory) e.sorts
  pub sides : HaveOneSort theory (slice_get e.sorts) e.left e.right
  pub premises : Each (PremiseFits theory (slice_get e.sorts)) e.premises

-- the numbers of sorts, operations and equations fit 32 bits, and each operation and equation fits
pub record FitsData (theory : Theory) : Type 0 where
  pub sorts_are_few : length theory.sorts < 2 ^ 32
  pub operations_are_few : length theory.operations < 2 ^ 32
  pub equations_are_few : length theory.equations < 2 ^ 32
  pub operations : Each (OperationFits theory) theory.operations
  pub equations : Each (EquationFits theory) theory.equations
