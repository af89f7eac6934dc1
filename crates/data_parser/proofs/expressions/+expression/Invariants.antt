use Rattle.std.proofs.Common.{length, map, ◌+◌, ◌*◌, ◌≤◌}
use Rattle.lotos_ast.specs.declared.mark.Mark.{Mark}
use Rattle.lotos_ast.specs.Notation.{quoted, part, expression, ◌▸◌}
use Rattle.lotos_ast.specs.ListTrees.{behind}
use Rattle.lotos_ast.specs.ExpressionTrees.{expr_tree, infix_tree}
use Rattle.lotos_ast.specs.Nesting.{nesting_of}
use Rattle.syntax_cursor.specs.Loops.{Repeats}
use Rattle.data_parser.specs.Chains.{ChainsOn}
use Rattle.data_parser.proofs.expressions.+expression.Given as goal

abbrev pub decreases-expressions : goal.decreases-expressions
decreases-expressions l = 6 * length l.cursor.now + 5

abbrev pub decreases-expression : goal.decreases-expression
decreases-expression l = 6 * length l.cursor.now + 4

abbrev pub decreases-simple : goal.decreases-simple
decreases-simple l = 6 * length l.cursor.now + 3

abbrev pub decreases-head : goal.decreases-head
decreases-head l = 6 * length l.cursor.now + 2

abbrev pub decreases-group : goal.decreases-group
decreases-group l = 6 * length l.cursor.now + 1

abbrev pub decreases-arguments : goal.decreases-arguments
decreases-arguments l = 6 * length l.cursor.now + 1

abbrev pub decreases-infixes : goal.decreases-infixes
decreases-infixes l = 6 * length l.cursor.now

abbrev pub decreases-further_expressions : goal.decreases-further_expressions
decreases-further_expressions l = 6 * length l.cursor.now

abbrev pub invariant-further_expressions-expressions : goal.invariant-further_expressions-expressions
invariant-further_expressions-expressions l = record {
  repeats : Repeats (nesting_of l.nest) (quoted Mark.Comma ▸ part expression) l.initial.cursor
      (map (λ e. behind (expr_tree e)) l.all.items) l.cursor;
  no_more : length l.cursor ≤ length l.initial.cursor;
}

abbrev pub decreases-further_expressions-expressions : goal.decreases-further_expressions-expressions
decreases-further_expressions-expressions l = length l.cursor

abbrev pub invariant-infixes-operations : goal.invariant-infixes-operations
invariant-infixes-operations l = record {
  chain : ChainsOn (nesting_of l.initial.here) l.initial.cursor (map infix_tree l.all.items) (nesting_of l.here) l.cursor;
  no_more : length l.cursor ≤ length l.initial.cursor;
}

abbrev pub decreases-infixes-operations : goal.decreases-infixes-operations
decreases-infixes-operations l = length l.cursor
