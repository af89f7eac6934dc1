use Rattle.std.proofs.Common.{◌≡◌, ◌++◌, map}
use Rattle.lotos_ast.specs.ListTrees.{repeated_tree}
use Rattle.lotos_ast.specs.SpecTrees.{where_item_tree}
use Rattle.lotos_ast.specs.TypeTrees.{type_def_tree}
use Rattle.lotos_front.specs.Types.{all_types}
use Rattle.lotos_front.proofs.types.+where_parts.Given as goal

abbrev pub invariant-add_items-loop-item : goal.invariant-add_items-loop-item
invariant-add_items-loop-item l = map type_def_tree l.all.items ≡ map type_def_tree l.initial.all.items ++ all_types (repeated_tree (map where_item_tree l.yielded))
