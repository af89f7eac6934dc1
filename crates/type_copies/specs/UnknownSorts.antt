-- Sorts that declarations of operations name and that the type doesn't have.
use Rattle.std.specs.Prelude.{List, [], ◌∷◌, ◌++◌, if◌then◌else◌}
use Rattle.std.specs.List.{flat_map}
use Rattle.lotos_ast.specs.declared.token.Token.{Token}
use Rattle.lotos_ast.specs.declared.refusal.Refusal.{Refusal}
use Rattle.lotos_ast.specs.declared.refusal.RefusalKind.{RefusalKind}
use Rattle.lotos_ast.specs.declared.types.TypeDef.{TypeDef}
use Rattle.lotos_ast.specs.declared.types.TypeDef.TheVariants.{Library, Definition}
use Rattle.lotos_ast.specs.declared.types.TypeBody.{TypeBody}
use Rattle.lotos_ast.specs.declared.types.TypeBody.TheVariants.{Declared, Renamed, Actualized}
use Rattle.lotos_ast.specs.declared.types.OperationDecl.{OperationDecl}
use Rattle.type_contents.specs.Lists.{listed}
use Rattle.type_contents.specs.Items.{Item, small, is_in}
use Rattle.type_contents.specs.Own.{sort_item, part_operations}
use Rattle.type_names.specs.Refused.{refused}

-- the sorts of arguments, and that of the result
abbrev pub operation_sorts : OperationDecl → List Token
operation_sorts d = listed d.arguments ++ d.result ∷ []

abbrev pub sorts_by : TypeBody → List Token
sorts_by (Declared place imports formals sorts operations equations) = flat_map operation_sorts (listed formals.operations)
    ++ flat_map operation_sorts (part_operations operations)
sorts_by (Renamed place source pairs) = []
sorts_by (Actualized place source actuals pairs) = []

-- the sorts that a type's declarations of operations name
abbrev pub sorts_in : TypeDef → List Token
sorts_in (Library place names) = []
sorts_in (Definition place name body) = sorts_by body

-- a sort that isn't among these items is refused
abbrev pub unknown_sort : List Item → Token → List Refusal
unknown_sort items t = if is_in items (sort_item (small t)) then [] else refused RefusalKind.UnknownSort t.place ∷ []

-- of a type that has these items
abbrev pub unknown_sorts : List Item → TypeDef → List Refusal
unknown_sorts items d = flat_map (unknown_sort items) (sorts_in d)
