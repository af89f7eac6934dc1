-- The trees of declarations of variables and of lists of gates.
use Rattle.std.specs.Prelude.{map, Option, Some, None, Vec}
use Rattle.std.specs.declared.alloc.Global.{Global}
use Rattle.lotos_ast.specs.declared.token.Token.{Token}
use Rattle.lotos_ast.specs.declared.declaration.Declaration.{Declaration}
use Rattle.lotos_ast.specs.declared.declaration.Declarations.{Declarations}
use Rattle.lotos_ast.specs.declared.declaration.GateList.{GateList}
use Rattle.lotos_ast.specs.declared.declaration.Functionality.{Functionality}
use Rattle.lotos_ast.specs.declared.declaration.Functionality.TheVariants.{NoExit, Exit}
use Rattle.lotos_ast.specs.Reads.{Tree, unkept, leaf, both, left, right, absent, present, node}
use Rattle.lotos_ast.specs.ListTrees.{list_tree, token_list_tree, behind, between}

abbrev pub declaration_tree : Declaration → Tree
declaration_tree d = node d.place (both (token_list_tree d.names.items) (behind (leaf d.sort)))

abbrev pub declarations_tree : Declarations → Tree
declarations_tree d = node d.place (list_tree (map declaration_tree d.list.items))

abbrev pub gate_list_tree : GateList → Tree
gate_list_tree g = node g.place (between (token_list_tree g.gates.items))

abbrev pub optional_gates_tree : Option GateList → Tree
optional_gates_tree None = absent
optional_gates_tree (Some gates) = present (gate_list_tree gates)

-- names in parentheses that may be left out
abbrev pub sorts_tree : Option (Vec Token Global) → Tree
sorts_tree None = absent
sorts_tree (Some sorts) = present (between (token_list_tree sorts.items))

abbrev pub functionality_tree : Functionality → Tree
functionality_tree (NoExit place) = node place (left unkept)
functionality_tree (Exit place sorts) = node place (right (behind (sorts_tree sorts)))
