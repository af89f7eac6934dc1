-- The own equations of each type (ISO 8807, ACT ONE): those that it declares, the formal ones first. They are read over what the type has,
-- and then stand in the numbers of all sorts and operations. A copy of a type, or a `library` part, declares none.
use Rattle.std.specs.Prelude.{◌≡◌, List, [], ◌∷◌, ◌++◌, map, Option, Some, None, option_to_list}
use Rattle.std.specs.List.{zip}
use Rattle.lotos_ast.specs.declared.refusal.Refusal.{Refusal}
use Rattle.lotos_ast.specs.declared.types.EquationBody.{EquationBody}
use Rattle.lotos_ast.specs.declared.types.EquationPart.{EquationPart}
use Rattle.lotos_ast.specs.declared.types.TypeBody.{TypeBody}
use Rattle.lotos_ast.specs.declared.types.TypeBody.TheVariants.{Declared, Renamed, Actualized}
use Rattle.lotos_ast.specs.declared.types.TypeDef.{TypeDef}
use Rattle.lotos_ast.specs.declared.types.TypeDef.TheVariants.{Library, Definition}
use Rattle.spec_core.specs.Theories.{ConditionalEquation}
use Rattle.static_equations.specs.Bodies.{IsBodyJudged}
use Rattle.static_equations.specs.Gathered.{Gathers}
use Rattle.type_contents.specs.Contents.{Content, contents}
use Rattle.type_contents.specs.Items.{Item, Described}
use Rattle.type_contents.specs.Numbering.{all_sorts, all_operations}
use Rattle.static_presentation.specs.Moved.{moved_equation}
use Rattle.static_presentation.specs.Signatures.{type_context, numbers_had}

abbrev pub part_body : Option EquationPart → List EquationBody
part_body None = []
part_body (Some part) = part.body ∷ []

abbrev pub bodies_by : TypeBody → List EquationBody
bodies_by (Declared place imports formals sorts operations equations) = option_to_list formals.equations ++ part_body equations
bodies_by (Renamed place source pairs) = []
bodies_by (Actualized place source actuals pairs) = []

-- the equations of a type as they are written
abbrev pub bodies : TypeDef → List EquationBody
bodies (Library place names) = []
bodies (Definition place name body) = bodies_by body

-- the equations that are written so in a type with these items
abbrev pub AreRead : List Described → List Described → List Item → List EquationBody → List ConditionalEquation → List Refusal → Type 0
AreRead sorts operations items written found refusals = (own : List ConditionalEquation)
    × Gathers (IsBodyJudged (type_context sorts operations items)) written own refusals
    × (found ≡ map (moved_equation (numbers_had items sorts) (numbers_had items operations)) own)

-- what one type has of its own
abbrev pub IsOwnOf : List Described → List Described → TypeDef × Content → List (List ConditionalEquation) → List Refusal → Type 0
IsOwnOf sorts operations e found refusals = (own : List ConditionalEquation) × (found ≡ own ∷ [])
    × AreRead sorts operations e.1.items (bodies e.0) own refusals

-- what each type has of its own, and what is refused
abbrev pub AreOwnEquations : List TypeDef → List (List ConditionalEquation) → List Refusal → Type 0
AreOwnEquations types = Gathers (IsOwnOf (all_sorts types) (all_operations types)) (zip types (contents types))
