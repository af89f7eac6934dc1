-- Overload resolution: what an expression may stand for. (ISO 8807, static semantics of value expressions; that a variable hides
-- constants of its name is this profile's.)
use Rattle.std.specs.Prelude.{ℕ, ◌≡◌, ◌⊎◌, ◌<◌, List, [], ◌∷◌, ◌++◌}
use Rattle.std.specs.List.{slice_get}
use Rattle.spec_core.specs.Lists.{Each}
use Rattle.spec_core.specs.Names.{IsSameName}
use Rattle.spec_core.specs.Sorts.{OnSome}
use Rattle.spec_core.specs.Signatures.{IsSortNamed}
use Rattle.spec_core.specs.Terms.{TermTree, TermTrees, variable, apply, no_terms, and_term}
use Rattle.spec_core.specs.Theories.{Operation}
use Rattle.sort_overloads.specs.Expressions.{Position, before, between, Expression, Expressions, named, applied, said}
use Rattle.sort_overloads.specs.Expressions.{nothing, no_expressions, and_expression}

-- a variable by its name, with its sort
pub record Declared : Type 0 where
  pub name : List ℕ
  pub sort : ℕ

-- what an expression may speak of: sorts, operations, and variables, of which a later one hides an earlier one of its name
pub record Context : Type 0 where
  pub sorts : List (List ℕ)
  pub operations : List Operation
  pub variables : List Declared

-- how a name is spelled in the declaration of an operation that stands there
abbrev pub spelling : Position → List ℕ → List ℕ
spelling before name = name
spelling between name = 95 ∷ (name ++ 95 ∷ [])

-- the variable of this number has this name and this sort, and no later one has the name
abbrev pub IsVariable : List ℕ → List Declared → ℕ → ℕ → Type 0
IsVariable name variables x sort = OnSome (slice_get variables x) (λ v. IsSameName v.name name × (v.sort ≡ sort))
    × ((y : ℕ) → x < y → OnSome (slice_get variables y) (λ v. IsSameName v.name name) → ⊥)

-- no variable has this name
abbrev pub IsNoVariable : List ℕ → List Declared → Type 0
IsNoVariable name variables = Each (λ v. IsSameName v.name name → ⊥) variables

-- The term is the expression with each name replaced by a variable or an operation so that all sorts fit, and is of this sort. A
-- name alone is a variable where one has the name, and else a constant; `of` asks for a sort.
abbrev mutual
  pub IsReading : Context → Expression → TermTree → ℕ → Type 0
  IsReading c (named name) t sort = ((x : ℕ) × (t ≡ variable x) × IsVariable name.text c.variables x sort)
      ⊎ IsNoVariable name.text c.variables × ((f : ℕ) × (t ≡ apply f no_terms) × OnSome (slice_get c.operations f)
      (λ d. IsSameName d.name name.text × (d.result ≡ sort) × (d.args ≡ [])))
  IsReading c (applied position name es) t sort = (f : ℕ) × (ts : TermTrees) × (t ≡ apply f ts)
      × OnSome (slice_get c.operations f) (λ d. IsSameName d.name (spelling position name.text) × (d.result ≡ sort)
      × AreReadings c es ts d.args)
  IsReading c (said e name) t sort = IsReading c e t sort × IsSortNamed c.sorts name.text sort
  IsReading c nothing t sort = ⊥

  -- the terms are readings of the expressions, each of its sort
  pub AreReadings : Context → Expressions → TermTrees → List ℕ → Type 0
  AreReadings c no_expressions no_terms [] = Unit {0}
  AreReadings c (and_expression e es) (and_term t ts) (sort ∷ sorts) = IsReading c e t sort × AreReadings c es ts sorts
  AreReadings c _ _ _ = ⊥
