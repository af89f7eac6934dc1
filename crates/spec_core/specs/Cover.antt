-- Calls over ground constructor terms that a group of equations decides, and operations with others. (This profile.)
use Rattle.std.specs.Prelude.{ℕ, ◌≡◌, ◌⊎◌, List, [], ◌∷◌, map, Option, Some}
use Rattle.std.specs.List.{slice_get}
use Rattle.spec_core.specs.Lists.{Each, OneOf}
use Rattle.spec_core.specs.Terms.{TermTree, TermTrees, variable, apply, instance}
use Rattle.spec_core.specs.Theories.{Operation, Premise, ConditionalEquation, Theory}
use Rattle.spec_core.specs.Sorts.{OnSome, HasSort, HaveSorts, no_variables}
use Rattle.spec_core.specs.Constructors.{IsConstructor, AreConstructed}
use Rattle.spec_core.specs.Orthogonality.{Gives, renamed}

-- a constant constructor of the sort
abbrev pub IsConstant : Theory → ℕ → ℕ → Type 0
IsConstant theory sort c = IsConstructor theory c × OnSome (slice_get theory.operations c) (λ d. (d.result ≡ sort) × (d.args ≡ []))

-- all constructors of the sort are constants
abbrev pub HasConstants : Theory → ℕ → Type 0
HasConstants theory sort =
    (c : ℕ) (d : Operation) → slice_get theory.operations c ≡ Some d → IsConstructor theory c → d.result ≡ sort → d.args ≡ []

-- each list begins with a premise that gives the term a constant
abbrev pub BeginWithConstants : Theory → TermTree → List (List Premise) → Type 0
BeginWithConstants theory t [] = Unit {0}
BeginWithConstants theory t ([] ∷ ls) = ⊥
BeginWithConstants theory t ((p ∷ ps) ∷ ls) = ((c : ℕ) × Gives theory p t c) × BeginWithConstants theory t ls

-- the lists that begin by giving the term this constant, without that premise
abbrev pub IsAfter : Theory → TermTree → ℕ → List (List Premise) → List (List Premise) → Type 0
IsAfter theory t c [] rest = rest ≡ []
IsAfter theory t c ([] ∷ ls) rest = ⊥
IsAfter theory t c ((p ∷ ps) ∷ ls) rest =
    (Gives theory p t c × ((more : List (List Premise)) × (rest ≡ ps ∷ more) × IsAfter theory t c ls more)) ⊎
    ((Gives theory p t c → ⊥) × IsAfter theory t c ls rest)

-- a full set of lists of premises, over variables of these sorts: one of the lists is empty; or all begin by giving one term a
-- constant, all constructors of its sort are constants, and for each of these the lists that begin with it are full without that
-- premise
pub data IsFull (theory : Theory) (vars : ℕ → Option ℕ) : List (List Premise) → Type 0 where
  empty_one : {ls : List (List Premise)} → OneOf (λ l. l ≡ []) ls → IsFull theory vars ls
  by_constants : {l : List Premise} {ls : List (List Premise)} (t : TermTree) (sort : ℕ) →
      HasSort theory vars t sort →
      HasConstants theory sort →
      BeginWithConstants theory t (l ∷ ls) →
      ((c : ℕ) → IsConstant theory sort c → (rest : List (List Premise)) → IsAfter theory t c (l ∷ ls) rest → IsFull theory vars rest) →
      IsFull theory vars (l ∷ ls)

-- the premises of an equation whose left side is this one, up to names of variables
abbrev pub IsOfGroup : TermTree → List Premise → ConditionalEquation → Type 0
IsOfGroup l ps e = (r : ℕ → ℕ) × (instance (λ x. variable (r x)) e.left ≡ l) × (ps ≡ map (renamed r) e.premises)

-- the lists of the group: each belongs to an equation of it, and each such equation gives one
pub record IsGroup (theory : Theory) (l : TermTree) (ls : List (List Premise)) : Type 0 where
  pub from_equations : Each (λ ps. OneOf (IsOfGroup l ps) theory.equations) ls
  pub all_equations :
      Each (λ e. (r : ℕ → ℕ) → instance (λ x. variable (r x)) e.left ≡ l → OneOf (λ ps. IsOfGroup l ps e) ls) theory.equations

-- the call matches the left side of an equation, by terms of the right sorts, whose group is full
pub record IsCoveredCall (theory : Theory) (call : TermTree) : Type 0 where
  pub left : TermTree
  pub equation : OneOf (λ e. e.left ≡ left) theory.equations
  pub bound : ℕ → TermTree
  pub vars : ℕ → Option ℕ
  pub lists : List (List Premise)
  pub matches : instance bound left ≡ call
  pub sorts : (x a : ℕ) → vars x ≡ Some a → HasSort theory no_variables (bound x) a
  pub group : IsGroup theory left lists
  pub full : IsFull theory vars lists

-- a partial operation: a defined one, of which some call over ground constructor terms of its argument sorts isn't covered
pub record IsPartial (theory : Theory) (f : ℕ) : Type 0 where
  pub defined : IsConstructor theory f → ⊥
  pub arguments : TermTrees
  pub sorts : OnSome (slice_get theory.operations f) (λ d. HaveSorts theory no_variables arguments d.args)
  pub constructed : AreConstructed theory arguments
  pub uncovered : IsCoveredCall theory (apply f arguments) → ⊥
