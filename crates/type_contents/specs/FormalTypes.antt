-- Formal types: those that declare something formal, or import or rename a formal type. They aren't part of the data.
use Rattle.std.specs.Prelude.{Bool, false, ◌||◌, not, List, length, Option, Some, None, ◌==◌}
use Rattle.std.specs.List.{list_any, slice_index_or}
use Rattle.lotos_ast.specs.declared.token.Token.{Token}
use Rattle.lotos_ast.specs.declared.types.TypeDef.{TypeDef}
use Rattle.lotos_ast.specs.declared.types.TypeDef.TheVariants.{Library, Definition}
use Rattle.lotos_ast.specs.declared.types.TypeBody.{TypeBody}
use Rattle.lotos_ast.specs.declared.types.TypeBody.TheVariants.{Declared, Renamed, Actualized}
use Rattle.lotos_ast.specs.declared.types.Formals.{Formals}
use Rattle.lotos_ast.specs.declared.types.OperationDecl.{OperationDecl}
use Rattle.lotos_ast.specs.declared.types.EquationBody.{EquationBody}
use Rattle.lotos_ast.specs.declared.types.SortEquations.{SortEquations}
use Rattle.type_contents.specs.Lists.{listed}
use Rattle.type_contents.specs.Own.{sort_names}
use Rattle.type_contents.specs.Uses.{number_of}
use Rattle.type_contents.specs.Rounds as rounds

abbrev pub is_filled : SortEquations → Bool
is_filled part = not (length part.equations.items == 0)

abbrev pub has_equations : Option EquationBody → Bool
has_equations None = false
has_equations (Some body) = list_any is_filled body.parts.items

abbrev pub is_declaring : OperationDecl → Bool
is_declaring d = not (length d.names.items == 0)

-- it has a formal sort, a formal operation or a formal equation
abbrev pub declares_formals : Formals → Bool
declares_formals formals = not (length (sort_names formals.sorts) == 0) || list_any is_declaring (listed formals.operations)
    || has_equations formals.equations

abbrev pub is_formal_in : List TypeDef → List Bool → Token → Bool
is_formal_in types table name = slice_index_or table (number_of types name) false

abbrev pub is_formal_by : List TypeDef → List Bool → TypeBody → Bool
is_formal_by types table (Declared place imports formals sorts operations equations) = declares_formals formals
    || list_any (is_formal_in types table) (listed imports)
is_formal_by types table (Renamed place source pairs) = is_formal_in types table source
is_formal_by types table (Actualized place source actuals pairs) = false

abbrev pub is_formal_from : List TypeDef → List Bool → TypeDef → Bool
is_formal_from types table (Library place names) = false
is_formal_from types table (Definition place name body) = is_formal_by types table body

-- of each type whether it is formal
abbrev pub formal_types : List TypeDef → List Bool
formal_types types = rounds.table false (is_formal_from types) types
