-- Equations by the rows of their sides in a table.
use Rattle.std.specs.Prelude.{ℕ, List, map}
use Rattle.spec_core.specs.declared.term.Term.{Term}
use Rattle.spec_core.specs.Sorts.{FitsGround}
use Rattle.spec_core.specs.Terms.{TermTree, instance, term_of}
use Rattle.spec_core.specs.Theories.{Theory}
use Rattle.value_table.specs.Tables.{Application, tree_at, AreFit, IsLonger, IsRow}
use Rattle.equal_proof.specs.declared.pair.Pair.{Pair}
use Rattle.equal_proof.specs.Certificates.{Sides, bound_by}

-- the equation for which a pair of rows stands
abbrev pub sides_at : List Application → Pair → Sides
sides_at rows p = (tree_at rows p.left, tree_at rows p.right)

-- both rows are of the table
abbrev pub IsPair : List Application → Pair → Type 0
IsPair rows p = IsRow rows p.left × IsRow rows p.right

-- the equations of a stack
abbrev pub stack_of : List Application → List Pair → List Sides
stack_of rows pairs = map (sides_at rows) pairs

-- the instance of a term of the program, where the terms of rows are bound to variables
abbrev pub instance_at : List Application → List ℕ → List ℕ → Term → TermTree
instance_at rows variables numbers term = instance (bound_by variables (map (tree_at rows) numbers)) (term_of term)

abbrev pub instances_at : List Application → List ℕ → List ℕ → List Term → List TermTree
instances_at rows variables numbers all = map (instance_at rows variables numbers) all

-- the instances of a premise's sides are terms of the data
abbrev pub premise_fits_at : Theory → List Application → List ℕ → List ℕ → Term × Term → Type 0
premise_fits_at theory rows variables numbers p =
    FitsGround theory (instance_at rows variables numbers p.0) × FitsGround theory (instance_at rows variables numbers p.1)

-- the table has more rows, all for terms of the data
pub record Grows (theory : Theory) (old new : List Application) : Type 0 where
  pub longer : IsLonger old new
  pub fit : AreFit theory new
