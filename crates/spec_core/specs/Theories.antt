-- Signatures and conditional equations over them: a theory of equations. (ISO 8807, ACT ONE: a data type specification.)
use Rattle.std.specs.Prelude.{ℕ, ◌≡◌, ◌⊎◌, List, [], ◌∷◌, Bool, map}
use Rattle.spec_core.specs.declared.term.Term.{Term}
use Rattle.spec_core.specs.declared.signature.OpDecl.{OpDecl}
use Rattle.spec_core.specs.declared.signature.Signature.{Signature}
use Rattle.spec_core.specs.declared.equation.Equation.{Equation}
use Rattle.spec_core.specs.declared.equation.DataSpec.{DataSpec}
use Rattle.spec_core.specs.Numbers.{sort_number}
use Rattle.spec_core.specs.Terms.{TermTree, TermTrees, apply, Occurs, term_of}

-- a declared operation: its name with its underscores, the numbers of its argument sorts and of its result sort, whether it is
-- marked as a constructor, and its place
pub record Operation : Type 0 where
  pub name : List ℕ
  pub args : List ℕ
  pub result : ℕ
  pub marked : Bool
  pub line : ℕ
  pub column : ℕ

-- a condition of an equation: two terms that are to be equal
pub data Premise : Type 0 where
  premise : TermTree → TermTree → Premise

-- an equation left = right under premises, with the sorts and the names of its variables, by their numbers, and its place
pub record ConditionalEquation : Type 0 where
  pub premises : List Premise
  pub left : TermTree
  pub right : TermTree
  pub sorts : List ℕ
  pub names : List (List ℕ)
  pub line : ℕ
  pub column : ℕ

-- the names of the sorts, the operations and the equations, each in the order of its numbers
pub record Theory : Type 0 where
  pub sorts : List (List ℕ)
  pub operations : List Operation
  pub equations : List ConditionalEquation

-- what the types of the program stand for
abbrev pub operation_of : OpDecl → Operation
operation_of d = record {
  name = d.name;
  args = map sort_number d.args.items;
  result = d.result.0;
  marked = d.marked;
  line = d.place_line;
  column = d.place_column;
}

abbrev pub operations_of : Signature → List Operation
operations_of signature = map operation_of signature.ops.items

abbrev pub premise_of : Term × Term → Premise
premise_of p = premise (term_of p.0) (term_of p.1)

abbrev pub equation_of : Equation → ConditionalEquation
equation_of e = record {
  premises = map premise_of e.premises.items;
  left = term_of e.left;
  right = term_of e.right;
  sorts = map sort_number e.vars.items;
  names = e.names.items;
  line = e.place_line;
  column = e.place_column;
}

abbrev pub theory_of : DataSpec → Theory
theory_of d = record {
  sorts = d.signature.sorts.items;
  operations = operations_of d.signature;
  equations = map equation_of d.equations.items;
}

-- the equation's left side is the operation f over some terms
abbrev pub Heads : ℕ → ConditionalEquation → Type 0
Heads f e = (ps : TermTrees) × (e.left ≡ apply f ps)

-- the variable x stands in one of the premises
abbrev pub OccursInPremises : ℕ → List Premise → Type 0
OccursInPremises x [] = ⊥
OccursInPremises x (premise a b ∷ ps) = Occurs x a ⊎ Occurs x b ⊎ OccursInPremises x ps

-- the variable x stands in the equation
abbrev pub OccursInEquation : ℕ → ConditionalEquation → Type 0
OccursInEquation x e = Occurs x e.left ⊎ Occurs x e.right ⊎ OccursInPremises x e.premises
