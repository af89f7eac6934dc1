-- Terms over a signature, without their places in memory.
use Rattle.std.specs.Prelude.{ℕ, suc, ◌≡◌, ◌⊎◌, List, [], ◌∷◌, ◌++◌}
use Rattle.spec_core.specs.declared.term.Term.{Term}
use Rattle.spec_core.specs.declared.term.Term.TheOpen.{Term-F, Var, App}
use Rattle.spec_core.specs.declared.term.Term.TheFolds.{fold-Term}

-- a term: a variable by its number, or an operation by its number over a list of terms
mutual
  pub data TermTree : Type 0 where
    variable : ℕ → TermTree
    apply : ℕ → TermTrees → TermTree

  pub data TermTrees : Type 0 where
    no_terms : TermTrees
    and_term : TermTree → TermTrees → TermTrees

-- the terms of a list, as the arguments of an operation
abbrev pub terms : List TermTree → TermTrees
terms [] = no_terms
terms (t ∷ ts) = and_term t (terms ts)

abbrev pub term_step : Term-F TermTree → TermTree
term_step (Var x) = variable x
term_step (App op args) = apply op.0 (terms args.items)

-- what a term of the program stands for
abbrev pub term_of : Term → TermTree
term_of = fold-Term TermTree term_step

-- an operation without arguments
abbrev pub constant : ℕ → TermTree
constant c = apply c no_terms

-- how many terms a list has
abbrev pub width : TermTrees → ℕ
width no_terms = 0
width (and_term t ts) = suc (width ts)

-- the term with s x in place of each variable x
abbrev mutual
  pub instance : (ℕ → TermTree) → TermTree → TermTree
  instance s (variable x) = s x
  instance s (apply f ts) = apply f (instances s ts)

  pub instances : (ℕ → TermTree) → TermTrees → TermTrees
  instances s no_terms = no_terms
  instances s (and_term t ts) = and_term (instance s t) (instances s ts)

-- a term without variables
abbrev mutual
  pub IsGround : TermTree → Type 0
  IsGround (variable x) = ⊥
  IsGround (apply f ts) = AreGround ts

  pub AreGround : TermTrees → Type 0
  AreGround no_terms = Unit {0}
  AreGround (and_term t ts) = IsGround t × AreGround ts

-- the variable x stands in a term
abbrev mutual
  pub Occurs : ℕ → TermTree → Type 0
  Occurs x (variable y) = x ≡ y
  Occurs x (apply f ts) = OccursInAny x ts

  pub OccursInAny : ℕ → TermTrees → Type 0
  OccursInAny x no_terms = ⊥
  OccursInAny x (and_term t ts) = Occurs x t ⊎ OccursInAny x ts

-- the operations of a term in preorder: each before those of its arguments, the arguments from the left
abbrev mutual
  pub preorder : TermTree → List ℕ
  preorder (variable x) = []
  preorder (apply f ts) = f ∷ preorders ts

  pub preorders : TermTrees → List ℕ
  preorders no_terms = []
  preorders (and_term t ts) = preorder t ++ preorders ts
