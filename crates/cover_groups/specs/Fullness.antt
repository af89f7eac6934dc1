-- Full sets of lists of premises, as they are decided.
use Rattle.std.specs.Prelude.{ℕ, ◌≡◌, List, [], ◌∷◌, Option, length, ◌≤◌}
use Rattle.std.specs.List.{slice_get}
use Rattle.spec_core.specs.Cover.{IsConstant, HasConstants, BeginWithConstants, IsAfter, IsFull}
use Rattle.spec_core.specs.Lists.{Each}
use Rattle.spec_core.specs.Orthogonality.{Gives}
use Rattle.spec_core.specs.Sorts.{OnSome, HasSort, PremiseFits}
use Rattle.spec_core.specs.Terms.{TermTree}
use Rattle.spec_core.specs.Theories.{Premise, Theory}

-- all lists begin by giving this term a constant, all constructors of its sort are constants, and for each of these the lists after it
-- are full
pub record IsFullBy (theory : Theory) (vars : ℕ → Option ℕ) (ls : List (List Premise)) (t : TermTree) : Type 0 where
  pub sort : ℕ
  pub sorted : HasSort theory vars t sort
  pub all_constant : HasConstants theory sort
  pub begin : BeginWithConstants theory t ls
  pub each : (c : ℕ) → IsConstant theory sort c → (rest : List (List Premise)) → IsAfter theory t c ls rest → IsFull theory vars rest

-- no list has more than n premises
abbrev pub HaveAtMost : ℕ → List (List Premise) → Type 0
HaveAtMost n ls = Each (λ l. length l ≤ n) ls

-- the list begins by giving the term a constant
abbrev pub Begins : Theory → TermTree → List Premise → Type 0
Begins theory t [] = ⊥
Begins theory t (p ∷ ps) = (c : ℕ) × Gives theory p t c

-- the list begins by giving the term this constant, and goes on with the rest
abbrev pub BeginsWith : Theory → TermTree → ℕ → List Premise → List Premise → Type 0
BeginsWith theory t c [] rest = ⊥
BeginsWith theory t c (p ∷ ps) rest = Gives theory p t c × (ps ≡ rest)

-- the operation is declared, without arguments
abbrev pub TakesNothing : Theory → ℕ → Type 0
TakesNothing theory c = OnSome (slice_get theory.operations c) (λ d. d.args ≡ [])

-- the premises of all lists are of terms over these variables
abbrev pub AllFit : Theory → (ℕ → Option ℕ) → List (List Premise) → Type 0
AllFit theory vars ls = Each (Each (PremiseFits theory vars)) ls

abbrev pub HasSomeSort : Theory → (ℕ → Option ℕ) → TermTree → Type 0
HasSomeSort theory vars t = (s : ℕ) × HasSort theory vars t s

-- the list begins with this premise
abbrev pub IsFirstOf : List Premise → Premise → Type 0
IsFirstOf [] p = ⊥
IsFirstOf (q ∷ qs) p = q ≡ p

-- the first list begins with this premise
abbrev pub IsFirstPremise : List (List Premise) → Premise → Type 0
IsFirstPremise [] p = ⊥
IsFirstPremise (l ∷ ls) p = IsFirstOf l p
