use Rattle.std.proofs.Common.{map}
use Rattle.lotos_ast.specs.TypeTrees.{type_def_tree}
use Rattle.lotos_front.proofs.Collected.{one_more}
use Rattle.lotos_front.proofs.types.+where_parts.Goals as goal

pub add_items-loop-item-preserved : goal.add_items-loop-item-preserved
add_items-loop-item-preserved t c = one_more (map type_def_tree c.args.all.now.items) _ _ c.loop-item.yielded c.in-Some-item.item c.loop-item.invariant c.in_ok-add_item-in-Some.ensures
