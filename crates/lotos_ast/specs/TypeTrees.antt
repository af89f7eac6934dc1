-- The trees of types.
use Rattle.std.specs.Prelude.{List, [], ◌∷◌, map, Option, Some, None, Vec}
use Rattle.std.specs.declared.alloc.Global.{Global}
use Rattle.lotos_ast.specs.declared.place.Place.{Place}
use Rattle.lotos_ast.specs.declared.token.Token.{Token}
use Rattle.lotos_ast.specs.declared.expression.Expr.{Expr}
use Rattle.lotos_ast.specs.declared.expression.Premiss.{Premiss}
use Rattle.lotos_ast.specs.declared.types.TypeDef.{TypeDef}
use Rattle.lotos_ast.specs.declared.types.TypeDef.TheVariants.{Library, Definition}
use Rattle.lotos_ast.specs.declared.types.TypeBody.{TypeBody}
use Rattle.lotos_ast.specs.declared.types.TypeBody.TheVariants.{Declared, Renamed, Actualized}
use Rattle.lotos_ast.specs.declared.types.Formals.{Formals}
use Rattle.lotos_ast.specs.declared.types.SortPart.{SortPart}
use Rattle.lotos_ast.specs.declared.types.SortList.{SortList}
use Rattle.lotos_ast.specs.declared.types.OperationPart.{OperationPart}
use Rattle.lotos_ast.specs.declared.types.OperationDecl.{OperationDecl}
use Rattle.lotos_ast.specs.declared.types.DeclaredName.{DeclaredName}
use Rattle.lotos_ast.specs.declared.types.OperationName.{OperationName}
use Rattle.lotos_ast.specs.declared.types.OperationName.TheVariants.{Prefix, Infix}
use Rattle.lotos_ast.specs.declared.types.EquationPart.{EquationPart}
use Rattle.lotos_ast.specs.declared.types.EquationBody.{EquationBody}
use Rattle.lotos_ast.specs.declared.types.ForAll.{ForAll}
use Rattle.lotos_ast.specs.declared.types.SortEquations.{SortEquations}
use Rattle.lotos_ast.specs.declared.types.Equation.{Equation}
use Rattle.lotos_ast.specs.declared.types.Pairs.{Pairs}
use Rattle.lotos_ast.specs.declared.types.SortPair.{SortPair}
use Rattle.lotos_ast.specs.declared.types.OperationPair.{OperationPair}
use Rattle.lotos_ast.specs.Reads.{Tree, unkept, leaf, both, left, right, absent, present, node}
use Rattle.lotos_ast.specs.ListTrees.{tree_place, repeated_tree, list_tree, token_list_tree, optional_token_tree}
use Rattle.lotos_ast.specs.ListTrees.{optional_list_tree, behind, between}
use Rattle.lotos_ast.specs.ExpressionTrees.{expr_tree, premiss_tree}
use Rattle.lotos_ast.specs.DeclarationTrees.{declarations_tree}

-- one or more; it isn't kept whether commas stand between them
abbrev pub loose_list_tree : List Tree → Tree
loose_list_tree xs = list_tree xs

abbrev pub sort_list_tree : SortList → Tree
sort_list_tree l = node l.place (loose_list_tree (map leaf l.names.items))

-- names of operations

abbrev pub operation_name_tree : OperationName → Tree
operation_name_tree (Prefix place name) = node place (left (leaf name))
operation_name_tree (Infix place name) = node place (right (both unkept (both (leaf name) unkept)))

-- the end of a declaration with two argument sorts
abbrev pub two_sorts_tree : List Token → Token → Tree
two_sorts_tree (first ∷ second ∷ []) result = behind (both (leaf first) (behind (both (leaf second) (behind (leaf result)))))
two_sorts_tree sorts result = unkept

abbrev pub both_sorts_tree : Option (Vec Token Global) → Token → Tree
both_sorts_tree None result = unkept
both_sorts_tree (Some sorts) result = two_sorts_tree sorts.items result

-- what follows a name, where one that stands between its arguments is among the names so far
abbrev pub infix_end_tree : List DeclaredName → Option (Vec Token Global) → Token → Tree
infix_end_tree [] sorts result = right (both_sorts_tree sorts result)
infix_end_tree (n ∷ ns) sorts result = left (behind (node n.place (both (operation_name_tree n.name)
    (both (optional_token_tree n.mark) (infix_end_tree ns sorts result)))))

-- a name where none so far stands between its arguments, with what follows it in either case
abbrev pub first_name_tree : Place → OperationName → Option Token → Tree → Tree → Tree
first_name_tree p (Prefix place name) mark prefix_end infix_end = node p
    (left (both (node place (leaf name)) (both (optional_token_tree mark) prefix_end)))
first_name_tree p (Infix place name) mark prefix_end infix_end = node p
    (right (both (node place (both unkept (both (leaf name) unkept))) (both (optional_token_tree mark) infix_end)))

abbrev pub prefix_end_tree : List DeclaredName → Option (Vec Token Global) → Token → Tree
prefix_end_tree [] sorts result = right (behind (both (optional_list_tree sorts) (behind (leaf result))))
prefix_end_tree (n ∷ ns) sorts result = left (behind (first_name_tree n.place n.name n.mark (prefix_end_tree ns sorts result)
    (infix_end_tree ns sorts result)))

abbrev pub names_tree : List DeclaredName → Option (Vec Token Global) → Token → Tree
names_tree [] sorts result = unkept
names_tree (n ∷ ns) sorts result = first_name_tree n.place n.name n.mark (prefix_end_tree ns sorts result) (infix_end_tree ns sorts result)

abbrev pub operation_decl_tree : OperationDecl → Tree
operation_decl_tree d = node d.place (names_tree d.names.items d.arguments d.result)

abbrev pub operation_part_tree : OperationPart → Tree
operation_part_tree o = node o.place (behind (repeated_tree (map operation_decl_tree o.operations.items)))

abbrev pub sort_part_tree : SortPart → Tree
sort_part_tree s = node s.place (behind (sort_list_tree s.sorts))

-- equations

abbrev pub for_all_tree : ForAll → Tree
for_all_tree f = node f.place (behind (declarations_tree f.declarations))

-- an arrow and both sides of an equation, behind its further premisses
abbrev pub conclusion_tree : List Tree → Expr → Expr → Tree
conclusion_tree premisses l r = both (repeated_tree (map behind premisses)) (behind (both (expr_tree l) (behind (expr_tree r))))

-- the first premiss, then the others with the conclusion
abbrev pub first_premiss_tree : Option Expr → Tree → Tree
first_premiss_tree None rest = right rest
first_premiss_tree (Some r) rest = left (behind (both (expr_tree r) (present rest)))

abbrev pub premisses_tree : List Premiss → Expr → Expr → Tree
premisses_tree [] l r = unkept
premisses_tree (p ∷ ps) l r = node p.place (both (expr_tree p.left) (first_premiss_tree p.right
    (conclusion_tree (map premiss_tree ps) l r)))

abbrev pub sides_tree : Option (Vec Premiss Global) → Expr → Expr → Tree
sides_tree None l r = node (tree_place (expr_tree l)) (both (expr_tree l) (left (behind (both (expr_tree r) absent))))
sides_tree (Some premisses) l r = premisses_tree premisses.items l r

abbrev pub equation_tree : Equation → Tree
equation_tree e = node e.place (sides_tree e.premisses e.left e.right)

-- equations that may be left out; each has the place of the first of those that are left
abbrev pub equations_tree : List Tree → Tree
equations_tree [] = absent
equations_tree (x ∷ xs) = present (node (tree_place x) (both x (equations_tree xs)))

abbrev pub sort_equations_tree : SortEquations → Tree
sort_equations_tree e = node e.place (behind (both (leaf e.sort) (both (repeated_tree (map for_all_tree e.variables.items))
    (equations_tree (map equation_tree e.equations.items)))))

abbrev pub equation_body_tree : EquationBody → Tree
equation_body_tree b = node b.place (both (repeated_tree (map for_all_tree b.variables.items))
    (repeated_tree (map sort_equations_tree b.parts.items)))

abbrev pub equation_part_tree : EquationPart → Tree
equation_part_tree e = node e.place (behind (equation_body_tree e.body))

-- formals

abbrev pub formal_sorts_tree : Option SortList → Tree
formal_sorts_tree None = absent
formal_sorts_tree (Some sorts) = present (behind (sort_list_tree sorts))

abbrev pub formal_operations_tree : Option (Vec OperationDecl Global) → Tree
formal_operations_tree None = absent
formal_operations_tree (Some operations) = present (behind (repeated_tree (map operation_decl_tree operations.items)))

abbrev pub formal_equations_tree : Option EquationBody → Tree
formal_equations_tree None = absent
formal_equations_tree (Some body) = present (behind (equation_body_tree body))

abbrev pub formals_tree : Formals → Tree
formals_tree f = node f.place (both (formal_sorts_tree f.sorts) (both (formal_operations_tree f.operations)
    (formal_equations_tree f.equations)))

-- bodies

abbrev pub sort_pair_tree : SortPair → Tree
sort_pair_tree p = node p.place (both (leaf p.new) (behind (leaf p.old)))

abbrev pub operation_pair_tree : OperationPair → Tree
operation_pair_tree p = node p.place (both (operation_name_tree p.new) (behind (operation_name_tree p.old)))

abbrev pub sort_pairs_tree : Option (Vec SortPair Global) → Tree
sort_pairs_tree None = absent
sort_pairs_tree (Some pairs) = present (behind (loose_list_tree (map sort_pair_tree pairs.items)))

abbrev pub operation_pairs_tree : Option (Vec OperationPair Global) → Tree
operation_pairs_tree None = absent
operation_pairs_tree (Some pairs) = present (behind (loose_list_tree (map operation_pair_tree pairs.items)))

abbrev pub pairs_tree : Pairs → Tree
pairs_tree p = node p.place (both (sort_pairs_tree p.sorts) (operation_pairs_tree p.operations))

abbrev pub optional_sort_part_tree : Option SortPart → Tree
optional_sort_part_tree None = absent
optional_sort_part_tree (Some sorts) = present (sort_part_tree sorts)

abbrev pub optional_operation_part_tree : Option OperationPart → Tree
optional_operation_part_tree None = absent
optional_operation_part_tree (Some operations) = present (operation_part_tree operations)

abbrev pub optional_equation_part_tree : Option EquationPart → Tree
optional_equation_part_tree None = absent
optional_equation_part_tree (Some equations) = present (equation_part_tree equations)

abbrev pub declared_items_tree : Formals → Option SortPart → Option OperationPart → Option EquationPart → Tree
declared_items_tree formals sorts operations equations = both (formals_tree formals)
    (both (optional_sort_part_tree sorts) (both (optional_operation_part_tree operations) (optional_equation_part_tree equations)))

-- imported types, and what the type declares
abbrev pub imports_tree : List Token → Tree → Tree
imports_tree [] items = unkept
imports_tree (t ∷ ts) items = left (both (leaf t) (right (right (both (repeated_tree (map behind (map leaf ts))) items))))

abbrev pub declared_body_tree : Option (Vec Token Global) → Tree → Tree
declared_body_tree None items = right items
declared_body_tree (Some imports) items = imports_tree imports.items items

abbrev pub type_body_tree : TypeBody → Tree
type_body_tree (Declared place imports formals sorts operations equations) = node place
    (declared_body_tree imports (declared_items_tree formals sorts operations equations))
type_body_tree (Renamed place source pairs) = node place (left (both (leaf source) (left (behind (pairs_tree pairs)))))
type_body_tree (Actualized place source actuals pairs) = node place
    (left (both (leaf source) (right (left (behind (both (token_list_tree actuals.items) (behind (pairs_tree pairs))))))))

abbrev pub type_def_tree : TypeDef → Tree
type_def_tree (Library place names) = node place (left (between (token_list_tree names.items)))
type_def_tree (Definition place name body) = node place (right (behind (both (leaf name) (between (type_body_tree body)))))
