use Rattle.std.proofs.Common.{length, map, ◌+◌, ◌*◌, ◌≤◌}
use Rattle.lotos_ast.specs.Notation.{part, where_item}
use Rattle.lotos_ast.specs.SpecTrees.{where_item_tree}
use Rattle.lotos_ast.specs.Nesting.{nesting_of}
use Rattle.syntax_cursor.specs.Loops.{Repeats}
use Rattle.behaviour_parser.proofs.process.+process.Given as goal

abbrev pub decreases-items : goal.decreases-items
decreases-items l = 3 * length l.cursor.now

abbrev pub decreases-where_items : goal.decreases-where_items
decreases-where_items l = 3 * length l.cursor.now + 2

abbrev pub decreases-one_where_item : goal.decreases-one_where_item
decreases-one_where_item l = 3 * length l.cursor.now + 1

abbrev pub decreases-process : goal.decreases-process
decreases-process l = 3 * length l.cursor.now

abbrev pub invariant-where_items-items : goal.invariant-where_items-items
invariant-where_items-items l = record {
  repeats : Repeats (nesting_of l.nest) (part where_item) l.initial.cursor (map where_item_tree l.all.items) l.cursor;
  no_more : length l.cursor ≤ length l.initial.cursor;
}

abbrev pub decreases-where_items-items : goal.decreases-where_items-items
decreases-where_items-items l = length l.cursor
