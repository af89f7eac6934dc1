-- Names that are declared twice.
use Rattle.std.specs.Prelude.{List, [], ◌∷◌, ◌++◌, Option, Some, None, if◌then◌else◌}
use Rattle.std.specs.List.{list_any, flat_map}
use Rattle.std.specs.Str.{bytes_eq}
use Rattle.lotos_ast.specs.declared.token.Token.{Token}
use Rattle.lotos_ast.specs.declared.refusal.Refusal.{Refusal}
use Rattle.lotos_ast.specs.declared.refusal.RefusalKind.{RefusalKind}
use Rattle.lotos_ast.specs.declared.types.TypeDef.{TypeDef}
use Rattle.lotos_ast.specs.declared.types.TypeDef.TheVariants.{Library, Definition}
use Rattle.lotos_ast.specs.declared.types.TypeBody.{TypeBody}
use Rattle.lotos_ast.specs.declared.types.TypeBody.TheVariants.{Declared, Renamed, Actualized}
use Rattle.lotos_ast.specs.declared.types.EquationBody.{EquationBody}
use Rattle.lotos_ast.specs.declared.types.EquationPart.{EquationPart}
use Rattle.lotos_ast.specs.declared.types.ForAll.{ForAll}
use Rattle.type_contents.specs.Items.{Described, small, is_same_item}
use Rattle.type_contents.specs.Own.{own_items}
use Rattle.type_names.specs.Refused.{refused, each_after}
use Rattle.type_names.specs.TypeCycles.{type_name}

-- a name that is among those before it is refused
abbrev pub name_twice : List Token → Token → List Refusal
name_twice before t = if list_any (λ y. bytes_eq (small y) (small t)) before then refused RefusalKind.DuplicateName t.place ∷ [] else []

abbrev pub names_twice : List Token → List Refusal
names_twice names = each_after name_twice [] names

abbrev pub types_twice : List TypeDef → List Refusal
types_twice types = names_twice (flat_map type_name types)

-- a sort or an operation that is declared before is refused, whichever type declares it; what is left open is declared
abbrev pub item_twice : List Described → Described → List Refusal
item_twice before d = if list_any (λ e. is_same_item e.item d.item) before then refused RefusalKind.DuplicateName d.place ∷ [] else []

abbrev pub declared_by : TypeBody → List Described
declared_by (Declared place imports formals sorts operations equations) = own_items formals sorts operations
declared_by (Renamed place source pairs) = []
declared_by (Actualized place source actuals pairs) = []

abbrev pub declared_in : TypeDef → List Described
declared_in (Library place names) = []
declared_in (Definition place name body) = declared_by body

abbrev pub items_twice : List TypeDef → List Refusal
items_twice types = each_after item_twice [] (flat_map declared_in types)

-- the lists of variables of a type's equations, each of one forall

abbrev pub lists_of : EquationBody → List ForAll
lists_of body = body.variables.items ++ flat_map (λ part. part.variables.items) body.parts.items

abbrev pub lists_if_there : Option EquationBody → List ForAll
lists_if_there None = []
lists_if_there (Some body) = lists_of body

abbrev pub part_lists : Option EquationPart → List ForAll
part_lists None = []
part_lists (Some part) = lists_of part.body

abbrev pub lists_by : TypeBody → List ForAll
lists_by (Declared place imports formals sorts operations equations) = lists_if_there formals.equations ++ part_lists equations
lists_by (Renamed place source pairs) = []
lists_by (Actualized place source actuals pairs) = []

abbrev pub lists_in : TypeDef → List ForAll
lists_in (Library place names) = []
lists_in (Definition place name body) = lists_by body

-- a variable that is declared before in the same list is refused
abbrev pub variables_twice : ForAll → List Refusal
variables_twice list = names_twice (flat_map (λ d. d.names.items) list.declarations.list.items)

abbrev pub duplicate_names : List TypeDef → List Refusal
duplicate_names types = types_twice types ++ items_twice types ++ flat_map variables_twice (flat_map lists_in types)
