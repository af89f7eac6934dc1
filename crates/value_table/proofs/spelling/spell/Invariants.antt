use Rattle.std.proofs.Common.{◌≡◌, ◌++◌, map}
use Rattle.spec_core.specs.Lists.{Each}
use Rattle.spec_core.specs.Numbers.{op_number}
use Rattle.spec_core.specs.Terms.{preorder}
use Rattle.value_table.specs.Spelled.{spelled_from_last}
use Rattle.value_table.specs.Tables.{tree_at, IsRow}
use Rattle.value_table.proofs.spelling.spell.Given as goal

abbrev pub invariant-loop-turn : goal.invariant-loop-turn
invariant-loop-turn l = record {
  there : Each (IsRow l.table) l.todo.items;
  spelled : preorder (tree_at l.table l.row) ≡ map op_number l.ops.items ++ spelled_from_last l.table l.todo.items;
}
