-- What a stack of terms spells.
use Rattle.std.specs.Prelude.{ℕ, ◌≡◌, List, [], ◌∷◌, ◌++◌, length}
use Rattle.std.specs.List.{slice_get}
use Rattle.spec_core.specs.declared.term.Term.{Term}
use Rattle.spec_core.specs.Lists.{Each}
use Rattle.spec_core.specs.Sorts.{OnSome}
use Rattle.spec_core.specs.Terms.{TermTree, TermTrees, variable, apply, no_terms, and_term, term_of, preorder, width}
use Rattle.spec_core.specs.Theories.{Theory}

-- a ground term in which each operation has as many arguments as it is declared with
abbrev mutual
  pub HasArguments : Theory → TermTree → Type 0
  HasArguments theory (variable x) = ⊥
  HasArguments theory (apply f ts) = OnSome (slice_get theory.operations f) (λ d. length d.args ≡ width ts) × HaveArguments theory ts

  pub HaveArguments : Theory → TermTrees → Type 0
  HaveArguments theory no_terms = Unit {0}
  HaveArguments theory (and_term t ts) = HasArguments theory t × HaveArguments theory ts

-- the operations of the terms, the last term first
abbrev pub stacked : List Term → List ℕ
stacked [] = []
stacked (t ∷ ts) = stacked ts ++ preorder (term_of t)

-- the terms of the stack spell these operations, and each operation has its arguments
pub record IsRead (theory : Theory) (stack : List Term) (ops : List ℕ) : Type 0 where
  pub spelled : stacked stack ≡ ops
  pub arguments : Each (λ t. HasArguments theory (term_of t)) stack
