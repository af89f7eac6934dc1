-- What a type declares itself.
use Rattle.std.specs.Prelude.{ℕ, false, List, [], ◌∷◌, ◌++◌, map, Option, Some, None, is_some}
use Rattle.std.specs.List.{flat_map}
use Rattle.lotos_ast.specs.declared.token.Token.{Token}
use Rattle.lotos_ast.specs.declared.types.Formals.{Formals}
use Rattle.lotos_ast.specs.declared.types.SortPart.{SortPart}
use Rattle.lotos_ast.specs.declared.types.SortList.{SortList}
use Rattle.lotos_ast.specs.declared.types.OperationPart.{OperationPart}
use Rattle.lotos_ast.specs.declared.types.OperationDecl.{OperationDecl}
use Rattle.lotos_ast.specs.declared.types.DeclaredName.{DeclaredName}
use Rattle.lotos_ast.specs.declared.types.OperationName.{OperationName}
use Rattle.lotos_ast.specs.declared.types.OperationName.TheVariants.{Prefix, Infix}
use Rattle.type_contents.specs.declared.item_kind.ItemKind.{ItemKind}
use Rattle.type_contents.specs.Lists.{listed}
use Rattle.type_contents.specs.Items.{Item, Described, small}

abbrev pub name_of : OperationName → Token
name_of (Prefix place name) = name
name_of (Infix place name) = name

abbrev pub kind_of : OperationName → ItemKind
kind_of (Prefix place name) = ItemKind.Prefix
kind_of (Infix place name) = ItemKind.Infix

abbrev pub sort_item : List ℕ → Item
sort_item name = record { kind = ItemKind.Sort; name = name; sorts = [] }

abbrev pub declared_sort : Token → Described
declared_sort t = record { item = sort_item (small t); spelled = t.text; marked = false; place = t.place }

-- one of the operations of a declaration
abbrev pub operation_item : OperationDecl → DeclaredName → Item
operation_item d n = record {
  kind = kind_of n.name;
  name = small (name_of n.name);
  sorts = map small (listed d.arguments)
      ++ small d.result ∷ [];
}

abbrev pub declared_operation : OperationDecl → DeclaredName → Described
declared_operation d n = record { item = operation_item d n; spelled = (name_of n.name).text; marked = is_some n.mark; place = n.place }

abbrev pub declared_operations : OperationDecl → List Described
declared_operations d = map (declared_operation d) d.names.items

abbrev pub sort_names : Option SortList → List Token
sort_names None = []
sort_names (Some sorts) = sorts.names.items

abbrev pub part_sort_names : Option SortPart → List Token
part_sort_names None = []
part_sort_names (Some part) = part.sorts.names.items

abbrev pub part_operations : Option OperationPart → List OperationDecl
part_operations None = []
part_operations (Some part) = part.operations.items

-- what is left open
abbrev pub formal_sorts : Formals → List Described
formal_sorts formals = map declared_sort (sort_names formals.sorts)

abbrev pub formal_operations : Formals → List Described
formal_operations formals = flat_map declared_operations (listed formals.operations)

abbrev pub own_formals : Formals → List Described
own_formals formals = formal_sorts formals ++ formal_operations formals

-- all that is declared, in the order of declaration: what is left open first, among sorts and among operations
abbrev pub own_items : Formals → Option SortPart → Option OperationPart → List Described
own_items formals sorts operations = formal_sorts formals ++ map declared_sort (part_sort_names sorts) ++ formal_operations formals
    ++ flat_map declared_operations (part_operations operations)
