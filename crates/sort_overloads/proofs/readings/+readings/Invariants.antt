use Rattle.std.proofs.Common.{map, take, drop}
use Rattle.lotos_ast.specs.ExpressionTrees.{expr_tree, infix_tree, simple_tree}
use Rattle.sort_overloads.specs.Expressions.{expression, simple_expression}
use Rattle.sort_overloads.specs.Listed.{readings}
use Rattle.sort_overloads.specs.Tables.{table_of}
use Rattle.sort_overloads.specs.Views.{context_of}
use Rattle.sort_overloads.proofs.ByExpressions.{ReadSoFar, SaidSoFar}
use Rattle.sort_overloads.proofs.Two.{AllStandFor}
use Rattle.sort_overloads.proofs.readings.+readings.Given as goal

abbrev pub invariant-expression_readings-loop-operation : goal.invariant-expression_readings-loop-operation
invariant-expression_readings-loop-operation l =
    ReadSoFar (context_of l.scope) (expression (expr_tree l.expr)) (map infix_tree (drop l.operation-index l.operation-items)) (table_of l.all)

abbrev pub invariant-head_readings-loop-argument : goal.invariant-head_readings-loop-argument
invariant-head_readings-loop-argument l =
    AllStandFor (map (λ a. readings (context_of l.scope) (expression (expr_tree a))) (take l.argument-index l.argument-items)) (map table_of l.tables.items)

abbrev pub invariant-simple_readings-loop-sort : goal.invariant-simple_readings-loop-sort
invariant-simple_readings-loop-sort l = SaidSoFar (context_of l.scope) (simple_expression (simple_tree l.simple)) (drop l.sort-index l.sort-items) (table_of l.all)
