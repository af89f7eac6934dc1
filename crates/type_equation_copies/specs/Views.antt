-- What the definitions see of the values of the code.
use Rattle.std.specs.Prelude.{ℕ, ◌≡◌, List, map, Option, Some, None, option_map, Vec}
use Rattle.std.specs.List.{zip}
use Rattle.lotos_ast.specs.declared.types.TypeDef.{TypeDef}
use Rattle.std.specs.declared.alloc.Global.{Global}
use Rattle.spec_core.specs.declared.equation.Equation.{Equation}
use Rattle.spec_core.specs.Theories.{ConditionalEquation, equation_of}
use Rattle.type_contents.specs.Contents.{contents}
use Rattle.type_contents.specs.Numbering.{all_sorts, all_operations, parts}
use Rattle.type_contents.specs.Settled.{IsSettled}
use Rattle.type_contents.specs.TypeIndexes.{IsTypeIndexOf}
use Rattle.type_contents.specs.Views.{described_of, parts_at}
use Rattle.type_images.specs.Views.{shared_of}
use Rattle.type_equation_copies.specs.declared.equations.TypeEquations.{TypeEquations}
use Rattle.type_equation_copies.specs.declared.new_numbers.ItemNumbers.{ItemNumbers}
use Rattle.type_equation_copies.specs.declared.made.Prepared.{Prepared}
use Rattle.type_equation_copies.specs.Contents.{Equations, no_equations, made_from}
use Rattle.type_equation_copies.specs.Indexes.{IsIndexOf, items_in}

abbrev pub equations_of : TypeEquations → Equations
equations_of e = record { all = map shared_of e.all.items; brought = map shared_of e.brought.items }

-- none where they aren't found yet
abbrev pub made_at : Option TypeEquations → Equations
made_at None = no_equations
made_at (Some e) = equations_of e

-- what has been found is what each round from the n-th on makes
abbrev pub AreEquationsSettled : List TypeDef → List (List ConditionalEquation) → List (Option TypeEquations) → ℕ → Type 0
AreEquationsSettled types own found n = IsSettled no_equations (made_from types) (zip types own) (map (option_map equations_of) found) n

-- these are the numbers of all that the types come to
pub record AreNumbersOf (types : List TypeDef) (numbers : ItemNumbers) : Type 0 where
  pub sorts : map described_of numbers.sorts.now ≡ all_sorts types
  pub operations : map described_of numbers.operations.now ≡ all_operations types
  pub sort_index : IsIndexOf numbers.sort_index (items_in (all_sorts types))
  pub operation_index : IsIndexOf numbers.operation_index (items_in (all_operations types))

-- what is known of the types is right
pub record IsPrepared (p : Prepared) : Type 0 where
  pub contents : p.contents.now ≡ contents p.types.now
  pub parts : map parts_at p.standings.items ≡ parts p.types.now
  pub numbers : AreNumbersOf p.types.now p.numbers
  pub by_name : IsTypeIndexOf p.by_name p.types.now

-- the own equations of types
abbrev pub stated_by : List (Vec Equation Global) → List (List ConditionalEquation)
stated_by own = map (λ all. map equation_of all.items) own
