use Rattle.std.proofs.Common.{rules, refl, ◌≡◌, ◌≤◌, map, length, ap, ◌∙◌, subst}
use Rattle.std.specs.List.{slice_get}
use Rattle.std.proofs.lemmas.Result.{IfOk-weaker}
use Rattle.std.proofs.lemmas.List.{take_all}
use Rattle.lotos_ast.specs.declared.expression.Head.TheFolds.{the_lemmas}
use Rattle.lotos_ast.specs.Reads.{leaf, both, right, present, node}
use Rattle.lotos_ast.specs.ListTrees.{list_tree, between}
use Rattle.lotos_ast.specs.ExpressionTrees.{expr_tree, infix_tree, simple_tree, head_tree}
use Rattle.sort_overloads.specs.Expressions.{expression, simple_expression, between as between_two}
use Rattle.sort_overloads.specs.Readings.{spelling}
use Rattle.sort_overloads.specs.Listed.{readings, those, is_name_of}
use Rattle.sort_overloads.specs.Tables.{table_of}
use Rattle.sort_overloads.specs.Views.{context_of}
use Rattle.sort_overloads.proofs.Two.{AllStandFor}
use Rattle.sort_overloads.proofs.ByOperations.{operations-moved}
use Rattle.sort_overloads.proofs.ByExpressions.{read-next, said-next, arguments-next, applied-stands, infix-stands}
use Rattle.sort_overloads.proofs.readings.+readings.Goals as goal

pub expression_readings-loop-operation-preserved : goal.expression_readings-loop-operation-preserved
expression_readings-loop-operation-preserved t c =
    let e : infix_tree c.operation-item.result ≡ node c.operation-item.result.place (both (leaf c.operation-item.result.name) (simple_tree c.operation-item.result.right)) = search (rules, the_lemmas) in
    read-next (context_of c.args.scope.now) (expression (expr_tree c.args.expr.now)) infix_tree c.deref-operation-items.result.now c.loop-operation.operation-index c.operation-item.result
    c.operation-item.result.place c.operation-item.result.name (simple_tree c.operation-item.result.right) (table_of c.loop-operation.all) (table_of c.in_ok-all-2.all)
    c.loop-operation-test.true c.operation-item.is e c.in_ok-all-2.ensures.stands c.loop-operation.invariant

pub head_readings-loop-argument-preserved : goal.head_readings-loop-argument-preserved
head_readings-loop-argument-preserved t c =
    arguments-next (λ a. readings (context_of c.args.scope.now) (expression (expr_tree a))) table_of c.deref-argument-items.result.now c.loop-argument.argument-index c.argument-item.result
    c.loop-argument.tables.items c.push.new.self.items c.in_ok-expression_readings-in-Some.field-0
    c.loop-argument-test.true c.argument-item.is c.in_ok-push-in-Some.ensures.items c.loop-argument.invariant c.in_ok-expression_readings-in-Some.ensures.stands

pub head_readings-returns-after-loop-argument : goal.head_readings-returns-after-loop-argument
head_readings-returns-after-loop-argument t c =
    let e : head_tree c.args.head.now ≡ node c.in-Applied.place (right (both (leaf c.in-Applied.name) (present (between (list_tree (map expr_tree c.in-Some.arguments.items)))))) = search (rules, the_lemmas) in
    let items = c.deref-argument-items.result.now in
    let n : length items ≤ c.loop-argument.argument-index = c.loop-argument-test.false in
    let h : AllStandFor (map (λ a. readings (context_of c.args.scope.now) (expression (expr_tree a))) c.in-Some.arguments.items) (map table_of c.loop-argument.tables.items) =
    subst (λ xs. AllStandFor (map (λ a. readings (context_of c.args.scope.now) (expression (expr_tree a))) xs) (map table_of c.loop-argument.tables.items)) (take_all c.loop-argument.argument-index items n ∙ c.deref-argument-items.ensures.value) c.loop-argument.invariant in
    record {
      stands = IfOk-weaker c.applied.result _ _
          (λ all s. applied-stands (context_of c.args.scope.now) (head_tree c.args.head.now) c.in-Applied.place c.in-Applied.name expr_tree c.in-Some.arguments.items (map table_of c.loop-argument.tables.items) (table_of all) e h
          (operations-moved _ _ _ _ (context_of c.args.scope.now).operations (table_of all) c.as_str-in-Some.ensures (ap (map table_of) refl) s))
          c.applied.ensures.stands;
    }

pub infix_readings-returns : goal.infix_readings-returns
infix_readings-returns t c = record {
  stands = IfOk-weaker c.applied.result _ _
      (λ all s e h. infix-stands (context_of c.args.scope.now) c.args.operation.now.name e (simple_expression (simple_tree c.args.operation.now.right)) c.as_str-2.result.now (map table_of c.in_ok-arguments.arguments.items) (table_of c.args.left) (table_of c.in_ok-right.right) (table_of all)
      (c.as_str-2.ensures.value ∙ c.in_ok-spelled.ensures ∙ ap (spelling between_two) c.as_str.ensures) (ap (map table_of) c.in_ok-arguments.ensures.items) h c.in_ok-right.ensures.stands s)
      c.applied.ensures.stands;
}

pub simple_readings-loop-sort-preserved : goal.simple_readings-loop-sort-preserved
simple_readings-loop-sort-preserved t c =
    said-next (context_of c.args.scope.now) (simple_expression (simple_tree c.args.simple.now)) c.deref-sort-items.result.now c.loop-sort.sort-index c.sort-item.result (table_of c.loop-sort.all) (table_of c.in_ok-all-2.all)
    c.loop-sort-test.true c.sort-item.is
    (c.in_ok-all-2.ensures ∙ ap (λ n. those (λ s. is_name_of n (slice_get c.deref.result.now s)) (table_of c.loop-sort.all)) c.as_str.ensures ∙ ap (λ ss. those (λ s. is_name_of c.sort-item.result.text (slice_get ss s)) (table_of c.loop-sort.all)) c.deref.ensures.value) c.loop-sort.invariant
