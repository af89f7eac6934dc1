-- The data presentation of a list of types (ISO 8807, ACT ONE): sorts, operations and equations of the types that aren't formal.
use Rattle.std.specs.Prelude.{◌≡◌, List, [], Some}
use Rattle.lotos_ast.specs.declared.refusal.Refusal.{Refusal}
use Rattle.lotos_ast.specs.declared.types.TypeDef.{TypeDef}
use Rattle.lotos_ast.specs.FirstRefusals.{first_refusal}
use Rattle.spec_core.specs.Theories.{ConditionalEquation, Theory}
use Rattle.type_data.specs.Data.{data_of}
use Rattle.static_presentation.specs.Own.{AreOwnEquations}

-- the data of the types' own equations, none of which is refused
pub record IsPresentation (types : List TypeDef) (theory : Theory) : Type 0 where
  pub own : List (List ConditionalEquation)
  pub read : AreOwnEquations types own []
  pub presented : theory ≡ data_of types own

-- the first of what is refused of the types' own equations
pub record IsFirstRefusal (types : List TypeDef) (r : Refusal) : Type 0 where
  pub own : List (List ConditionalEquation)
  pub refusals : List Refusal
  pub read : AreOwnEquations types own refusals
  pub first : first_refusal refusals ≡ Some r
