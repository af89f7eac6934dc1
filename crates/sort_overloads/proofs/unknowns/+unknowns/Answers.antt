use Rattle.std.proofs.Common.{rules, ◌≡◌, ◌≤◌, ◌++◌, map, length, ap, ◌∙◌}
use Rattle.std.specs.List.{flat_map}
use Rattle.std.proofs.lemmas.List.{take_all}
use Rattle.lotos_ast.specs.declared.expression.Head.TheFolds.{the_lemmas}
use Rattle.lotos_ast.specs.Reads.{leaf, both, right, present, node}
use Rattle.lotos_ast.specs.ListTrees.{list_tree, between}
use Rattle.lotos_ast.specs.ExpressionTrees.{expr_tree, infix_tree, simple_tree, head_tree}
use Rattle.sort_overloads.specs.Expressions.{expression}
use Rattle.sort_overloads.specs.Refused.{unknowns}
use Rattle.sort_overloads.specs.Views.{context_of}
use Rattle.sort_overloads.proofs.Listings.{listed-next, applied-listed}
use Rattle.sort_overloads.proofs.unknowns.+unknowns.Goals as goal

pub add_unknowns-loop-operation-preserved : goal.add_unknowns-loop-operation-preserved
add_unknowns-loop-operation-preserved t c =
    let e : infix_tree c.operation-item.result ≡ node c.operation-item.result.place (both (leaf c.operation-item.result.name) (simple_tree c.operation-item.result.right)) = search (rules, the_lemmas) in
    listed-next (context_of c.args.scope.now) (expression (expr_tree c.args.expr.now)) infix_tree c.deref-operation-items.result.now c.loop-operation.operation-index c.operation-item.result
    c.operation-item.result.place c.operation-item.result.name (simple_tree c.operation-item.result.right)
    c.args.refusals.now.items c.loop-operation.refusals.items c.add_unknown_name.new.refusals.items c.add_unknowns_of_operand-in-loop-operation.new.refusals.items
    c.loop-operation-test.true c.operation-item.is e c.in_ok-add_unknown_name.ensures.added (c.in_ok-add_unknowns_of_operand-2).ensures.added c.loop-operation.invariant

pub add_unknowns_of_head-returns-after-loop-argument : goal.add_unknowns_of_head-returns-after-loop-argument
add_unknowns_of_head-returns-after-loop-argument t c =
    let context = context_of c.args.scope.now in
    let e : head_tree c.args.head.now ≡ node c.in-Applied.place (right (both (leaf c.in-Applied.name) (present (between (list_tree (map expr_tree c.in-Some.arguments.items)))))) = search (rules, the_lemmas) in
    let items = c.deref-argument-items.result.now in
    let n : length items ≤ c.loop-argument.argument-index = c.loop-argument-test.false in
    let named = c.add_unknown_name.new.refusals.items in
    record {
      added = applied-listed context (head_tree c.args.head.now) c.in-Applied.place c.in-Applied.name expr_tree c.in-Some.arguments.items c.args.refusals.now.items named c.loop-argument.refusals.items
          e (c.in_ok-add_unknown_name-in-Applied).ensures.added
          (c.loop-argument.invariant ∙ ap (λ z. named ++ flat_map (λ a. unknowns context (expression (expr_tree a))) z) (take_all c.loop-argument.argument-index items n ∙ c.deref-argument-items.ensures.value));
    }
