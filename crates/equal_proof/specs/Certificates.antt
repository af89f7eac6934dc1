-- Certificates of equality: steps that run on a stack of equations. (ISO 8807, ACT ONE: each step is a rule of the derivation system.)
use Rattle.std.specs.Prelude.{ℕ, ◌≡◌, ◌≤◌, List, [], ◌∷◌, ◌++◌, Option, Some, None, Bool, length, map, take, if◌then◌else◌, nat_eq}
use Rattle.std.specs.List.{list_any, slice_get}
use Rattle.spec_core.specs.Equality.{Equal}
use Rattle.spec_core.specs.Sorts.{OnSome, HasSort, HaveSorts, FitsGround, no_variables}
use Rattle.spec_core.specs.Terms.{TermTree, TermTrees, variable, apply, no_terms, and_term, instance, preorder, terms}
use Rattle.spec_core.specs.Theories.{Premise, premise, Operation, ConditionalEquation, Theory}
use Rattle.equal_proof.specs.declared.proof.ProofStep.{ProofStep}
use Rattle.equal_proof.specs.declared.proof.ProofStep.TheVariants.{Same, Turn, Chain, Inside, Use}

-- an equation between two terms
abbrev pub Sides : Type 0
Sides = TermTree × TermTree

abbrev pub left_of : Sides → TermTree
left_of p = p.0

abbrev pub right_of : Sides → TermTree
right_of p = p.1

-- the variables of a term in the order of their first occurrences, behind those that were found before
abbrev pub with_variable : List ℕ → ℕ → List ℕ
with_variable found x = if list_any (nat_eq x) found then found else found ++ x ∷ []

abbrev mutual
  pub with_variables : List ℕ → TermTree → List ℕ
  with_variables found (variable x) = with_variable found x
  with_variables found (apply f ts) = with_all_variables found ts

  pub with_all_variables : List ℕ → TermTrees → List ℕ
  with_all_variables found no_terms = found
  with_all_variables found (and_term t ts) = with_all_variables (with_variables found t) ts

abbrev pub variables_of : TermTree → List ℕ
variables_of t = with_variables [] t

-- what terms put in the places of these variables, one by one; another variable stays
abbrev pub bound_by : List ℕ → List TermTree → ℕ → TermTree
bound_by [] ts x = variable x
bound_by (y ∷ ys) [] x = variable x
bound_by (y ∷ ys) (t ∷ ts) x = if nat_eq y x then t else bound_by ys ts x

-- the instance of a premise, as an equation
abbrev pub premise_instance : (ℕ → TermTree) → Premise → Sides
premise_instance s (premise a b) = (instance s a, instance s b)

-- by the substitution of these terms for the variables of the left side: the equations taken are the instances of the premises, in
-- order, and the equation put is the instance of the sides
abbrev pub IsInstanceBy : ConditionalEquation → List TermTree → List Sides → Sides → Type 0
IsInstanceBy e ts taken put =
    (taken ≡ map (premise_instance (bound_by (variables_of e.left) ts)) e.premises) ×
    (put ≡ (instance (bound_by (variables_of e.left) ts) e.left, instance (bound_by (variables_of e.left) ts) e.right))

module _ (theory : Theory) where
  -- the terms are ground and of the sorts of these variables, one by one
  abbrev pub FitVariables : List ℕ → List ℕ → List TermTree → Type 0
  FitVariables sorts [] [] = Unit {0}
  FitVariables sorts (x ∷ xs) (t ∷ ts) =
      OnSome (slice_get sorts x) (λ sort. HasSort theory no_variables t sort) × FitVariables sorts xs ts
  FitVariables sorts [] (t ∷ ts) = ⊥
  FitVariables sorts (x ∷ xs) [] = ⊥

  -- under each of the two lists of terms the operation makes a term of the data
  abbrev pub IsInside : Operation → List Sides → Type 0
  IsInside d taken =
      HaveSorts theory no_variables (terms (map left_of taken)) d.args × HaveSorts theory no_variables (terms (map right_of taken)) d.args

  -- the same for terms of the sorts of the variables, in preorder
  abbrev pub IsInstance : ConditionalEquation → List (List ℕ) → List Sides → Sides → Type 0
  IsInstance e values taken put =
      (ts : List TermTree) × (values ≡ map preorder ts) × FitVariables e.sorts (variables_of e.left) ts × IsInstanceBy e ts taken put

  -- the step infers an equation from those that it takes: reflexivity, symmetry, transitivity, congruence, an instance of an equation
  abbrev pub Infers : ProofStep → List Sides → Sides → Type 0
  Infers (Same value) taken put = (t : TermTree) × FitsGround theory t × (value ≡ preorder t) × (taken ≡ []) × (put ≡ (t, t))
  Infers Turn taken put = (t u : TermTree) × (taken ≡ (t, u) ∷ []) × (put ≡ (u, t))
  Infers Chain taken put = (t u w : TermTree) × (taken ≡ (t, u) ∷ (u, w) ∷ []) × (put ≡ (t, w))
  Infers (Inside f) taken put =
      OnSome (slice_get theory.operations f.0) (λ d. IsInside d taken) ×
      (put ≡ (apply f.0 (terms (map left_of taken)), apply f.0 (terms (map right_of taken))))
  Infers (Use equation values) taken put = OnSome (slice_get theory.equations equation) (λ e. IsInstance e values.items taken put)

  -- the step takes equations from the top of the stack, which is its end, and puts the one that it infers from them
  pub record StepOf (step : ProofStep) (old new : List Sides) : Type 0 where
    pub rest : List Sides
    pub taken : List Sides
    pub put : Sides
    pub before : old ≡ rest ++ taken
    pub inferred : Infers step taken put
    pub after : new ≡ rest ++ put ∷ []

  -- steps one after another
  abbrev pub Runs : List ProofStep → List Sides → List Sides → Type 0
  Runs [] old new = new ≡ old
  Runs (step ∷ steps) old new = (middle : List Sides) × StepOf step old middle × Runs steps middle new

  -- all steps apply, from the empty stack, and leave just this equation
  abbrev pub Proves : List ProofStep → TermTree → TermTree → Type 0
  Proves steps t u = Runs steps [] ((t, u) ∷ [])

  -- the step doesn't apply; where there is no step, not just one equation is left
  abbrev pub IsStuck : Option ProofStep → List Sides → Type 0
  IsStuck (Some step) stack = (new : List Sides) → StepOf step stack new → ⊥
  IsStuck None stack = (p : Sides) → stack ≡ p ∷ [] → ⊥

  -- the step of this number is the first that doesn't apply; or all do, it is the number of steps, and not just one equation is left
  pub record FailsAt (steps : List ProofStep) (number : ℕ) : Type 0 where
    pub within : number ≤ length steps
    pub stack : List Sides
    pub before : Runs (take number steps) [] stack
    pub stuck : IsStuck (slice_get steps number) stack

  -- the steps prove an equation with these sides in preorder; the sides are terms of the data, and provably equal
  pub record ProvesSpelled (steps : List ProofStep) (left right : List ℕ) : Type 0 where
    pub left_term : TermTree
    pub right_term : TermTree
    pub left_spelled : left ≡ preorder left_term
    pub right_spelled : right ≡ preorder right_term
    pub proves : Proves steps left_term right_term
    pub left_fits : FitsGround theory left_term
    pub right_fits : FitsGround theory right_term
    pub equal : Equal theory left_term right_term
