-- Alike types declare the same.
use Rattle.std.proofs.Common.{◌≡◌, refl, ap, [], ◌∷◌, ◌++◌, map, Option, Some, None, is_some}
use Rattle.lotos_ast.specs.declared.types.DeclaredName.{DeclaredName}
use Rattle.lotos_ast.specs.declared.types.EquationPart.{EquationPart}
use Rattle.lotos_ast.specs.declared.types.Formals.{Formals}
use Rattle.lotos_ast.specs.declared.types.OperationDecl.{OperationDecl}
use Rattle.lotos_ast.specs.declared.types.OperationPart.{OperationPart}
use Rattle.lotos_ast.specs.declared.types.Pairs.{Pairs}
use Rattle.lotos_ast.specs.declared.types.SortList.{SortList}
use Rattle.lotos_ast.specs.declared.types.SortPart.{SortPart}
use Rattle.type_contents.specs.Images.{new_sort, new_operation, renaming_of}
use Rattle.type_contents.specs.Items.{small}
use Rattle.type_contents.specs.Lists.{listed}
use Rattle.type_contents.specs.Own.{name_of, kind_of, declared_sort, declared_operations, sort_names, part_sort_names, part_operations, formal_sorts, formal_operations, own_formals, own_items}
use Rattle.syntax_laws.specs.Alike.{AreAlike, IfThere, AreSortListsAlike, AreSortPartsAlike, AreOperationsAlike, AreOperationPartsAlike, AreFormalsAlike, ArePairsAlike, AreItemsAlike}
use Rattle.static_uniqueness.proofs.Lists.{flat-same, listed-same, listed-alike}

pub sort-names-same : (o p : Option SortList) → IfThere AreSortListsAlike o p → sort_names o ≡ sort_names p
sort-names-same None None h = refl
sort-names-same None (Some m) h = absurd h
sort-names-same (Some l) None h = absurd h
sort-names-same (Some l) (Some m) h = h.names

part-sort-names-same : (o p : Option SortPart) → IfThere AreSortPartsAlike o p → part_sort_names o ≡ part_sort_names p
part-sort-names-same None None h = refl
part-sort-names-same None (Some m) h = absurd h
part-sort-names-same (Some l) None h = absurd h
part-sort-names-same (Some l) (Some m) h = h.sorts.names

pub part-operations-alike : (o p : Option OperationPart) → IfThere AreOperationPartsAlike o p → AreAlike AreOperationsAlike (part_operations o) (part_operations p)
part-operations-alike None None h = tt
part-operations-alike None (Some m) h = absurd h
part-operations-alike (Some l) None h = absurd h
part-operations-alike (Some l) (Some m) h = h.operations

declared-operations-same : (d e : OperationDecl) → AreOperationsAlike d e → declared_operations d ≡ declared_operations e
declared-operations-same d e h =
    let args : listed d.arguments ≡ listed e.arguments = listed-same d.arguments e.arguments h.arguments in
    let names : d.names.items ≡ e.names.items = h.names in
    let result : d.result ≡ e.result = h.result in
    λ i. map (λ (n : DeclaredName). record {
      item = record { kind = kind_of n.name; name = small (name_of n.name); sorts = map small (args i) ++ small (result i) ∷ [] };
      spelled = (name_of n.name).text;
      marked = is_some n.mark;
      place = n.place;
    }) (names i)

formal-sorts-same : (f g : Formals) → AreFormalsAlike f g → formal_sorts f ≡ formal_sorts g
formal-sorts-same f g h = ap (map declared_sort) (sort-names-same f.sorts g.sorts h.sorts)

formal-operations-same : (f g : Formals) → AreFormalsAlike f g → formal_operations f ≡ formal_operations g
formal-operations-same f g h =
    flat-same AreOperationsAlike declared_operations declared_operations declared-operations-same (listed f.operations) (listed g.operations) (listed-alike AreOperationsAlike f.operations g.operations h.operations)

pub own-formals-same : (f g : Formals) → AreFormalsAlike f g → own_formals f ≡ own_formals g
own-formals-same f g h = λ i. formal-sorts-same f g h i ++ formal-operations-same f g h i

pub own-items-same : (f g : Formals) (s t : Option SortPart) (o p : Option OperationPart) (c d : Option EquationPart) → AreItemsAlike f g s t o p c d → own_items f s o ≡ own_items g t p
own-items-same f g s t o p c d h =
    let a = formal-sorts-same f g h.formals in
    let b = ap (map declared_sort) (part-sort-names-same s t h.sorts_alike) in
    let e = formal-operations-same f g h.formals in
    let k = flat-same AreOperationsAlike declared_operations declared_operations declared-operations-same (part_operations o) (part_operations p) (part-operations-alike o p h.operations_alike) in
    λ i. a i ++ b i ++ e i ++ k i

pub renaming-same : (p q : Pairs) → ArePairsAlike p q → renaming_of p ≡ renaming_of q
renaming-same p q h =
    let s = listed-same p.sorts q.sorts h.sorts in
    let o = listed-same p.operations q.operations h.operations in
    λ i. record { sorts = map new_sort (s i); operations = map new_operation (o i) }
