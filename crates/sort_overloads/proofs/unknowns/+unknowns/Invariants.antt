use Rattle.std.proofs.Common.{◌≡◌, ◌++◌, map, take, drop}
use Rattle.std.specs.List.{flat_map}
use Rattle.lotos_ast.specs.ExpressionTrees.{expr_tree, infix_tree, simple_tree}
use Rattle.sort_overloads.specs.Expressions.{expression, simple_expression}
use Rattle.sort_overloads.specs.Refused.{unknowns}
use Rattle.sort_overloads.specs.Views.{context_of}
use Rattle.sort_overloads.proofs.Listings.{ListedSoFar, SaidListed}
use Rattle.sort_overloads.proofs.unknowns.+unknowns.Given as goal

abbrev pub invariant-add_unknowns-loop-operation : goal.invariant-add_unknowns-loop-operation
invariant-add_unknowns-loop-operation l =
    ListedSoFar (context_of l.scope) (expression (expr_tree l.expr)) (map infix_tree (drop l.operation-index l.operation-items)) l.fn.refusals.items l.refusals.items

abbrev pub invariant-add_unknowns_of_head-loop-argument : goal.invariant-add_unknowns_of_head-loop-argument
invariant-add_unknowns_of_head-loop-argument l =
    l.refusals.items ≡ l.initial.refusals.items ++ flat_map (λ a. unknowns (context_of l.scope) (expression (expr_tree a))) (take l.argument-index l.argument-items)

abbrev pub invariant-add_unknowns_of_operand-loop-sort : goal.invariant-add_unknowns_of_operand-loop-sort
invariant-add_unknowns_of_operand-loop-sort l = SaidListed (context_of l.scope) (simple_expression (simple_tree l.simple)) (drop l.sort-index l.sort-items) l.fn.refusals.items l.refusals.items
