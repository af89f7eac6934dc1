-- The trees of specifications and processes.
use Rattle.std.specs.Prelude.{map, Option, Some, None, Vec}
use Rattle.std.specs.declared.alloc.Global.{Global}
use Rattle.lotos_ast.specs.declared.declaration.Declarations.{Declarations}
use Rattle.lotos_ast.specs.declared.spec.Spec.{Spec}
use Rattle.lotos_ast.specs.declared.spec.Process.{Process, Process-F, fold-Process}
use Rattle.lotos_ast.specs.declared.spec.WhereItem.{WhereItem}
use Rattle.lotos_ast.specs.declared.spec.WhereItem.TheOpen.{WhereItem-F, Types, Definition}
use Rattle.lotos_ast.specs.declared.spec.WhereItem.TheFolds.{fold-WhereItem}
use Rattle.lotos_ast.specs.Reads.{Tree, unkept, leaf, both, left, right, absent, present, node}
use Rattle.lotos_ast.specs.ListTrees.{tree_place, repeated_tree, behind, between}
use Rattle.lotos_ast.specs.DeclarationTrees.{declarations_tree, optional_gates_tree, functionality_tree}
use Rattle.lotos_ast.specs.TypeTrees.{type_def_tree}
use Rattle.lotos_ast.specs.BehaviourTrees.{behaviour_tree}

-- the types and processes of a `where`
abbrev pub items_step : Option (Vec Tree Global) → Tree
items_step None = absent
items_step (Some items) = present (behind (repeated_tree items.items))

-- variables in parentheses that may be left out
abbrev pub parameters_tree : Option Declarations → Tree
parameters_tree None = absent
parameters_tree (Some declarations) = present (between (declarations_tree declarations))

abbrev pub where_item_step : WhereItem-F Tree Tree → Tree
where_item_step (Types types) = node (tree_place (type_def_tree types)) (left (type_def_tree types))
where_item_step (Definition process) = node (tree_place process) (right process)

abbrev pub process_step : Process-F Tree Tree → Tree
process_step p = node p.place (behind (both (leaf p.name) (both (optional_gates_tree p.gates)
    (both (parameters_tree p.parameters) (behind (both (functionality_tree p.functionality)
    (behind (both (behaviour_tree p.behaviour) (both (items_step p.items) unkept)))))))))

abbrev pub where_item_tree : WhereItem → Tree
where_item_tree = fold-WhereItem Tree Tree where_item_step process_step

abbrev pub process_tree : Process → Tree
process_tree = fold-Process Tree Tree where_item_step process_step

abbrev pub items_tree : Option (Vec WhereItem Global) → Tree
items_tree None = absent
items_tree (Some items) = present (behind (repeated_tree (map where_item_tree items.items)))

abbrev pub spec_tree : Spec → Tree
spec_tree s = node s.place (behind (both (leaf s.name) (both (optional_gates_tree s.gates)
    (behind (both (functionality_tree s.functionality) (both (repeated_tree (map type_def_tree s.types.items))
    (behind (both (behaviour_tree s.behaviour) (both (items_tree s.items) unkept)))))))))
