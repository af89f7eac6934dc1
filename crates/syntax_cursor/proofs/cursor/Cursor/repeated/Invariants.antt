use Rattle.std.proofs.Common.{length, map, ◌≤◌}
use Rattle.lotos_ast.specs.Nesting.{nesting_of}
use Rattle.syntax_cursor.specs.Loops.{Repeats}
use Rattle.syntax_cursor.proofs.cursor.Cursor.repeated.Given as goal

abbrev pub invariant-items : goal.invariant-items
invariant-items g l = record {
  repeats : Repeats (nesting_of l.nest) g.I.Item.syntax l.initial.self (map g.I.Item.tree l.all.items) l.self;
  no_more : length l.self ≤ length l.initial.self;
}

abbrev pub decreases-items : goal.decreases-items
decreases-items g l = length l.self
