use Rattle.std.proofs.Common.{rules, arith}
use Rattle.lotos_ast.specs.Reads.{reads_sequence}
use Rattle.lotos_ast.specs.ListTrees.{behind}
use Rattle.lotos_ast.specs.ExpressionTrees.{expr_tree}
use Rattle.syntax_cursor.proofs.Loops.{repeats_next, loop_steps}
use Rattle.syntax_cursor.proofs.Steps.{steps}
use Rattle.data_parser.proofs.Chains.{chain_next, chain_steps}
use Rattle.data_parser.proofs.expressions.+expression.Goals as goal

pub further_expressions-expressions-preserved : goal.further_expressions-expressions-preserved
further_expressions-expressions-preserved h c = record {
  repeats = repeats_next _ (λ e. behind (expr_tree e)) _ _ _ _ c.in_ok-next.next _ _ c.expressions.invariant.repeats (search rules)
      (reads_sequence c.pass.new.self c.in_ok-pass.ensures.read c.in_ok-next.ensures.read) (search rules);
  no_more = omega (arith, c.in_ok-pass.ensures.fewer, c.in_ok-next.ensures.fewer, c.expressions.invariant.no_more);
}

pub infixes-operations-preserved : goal.infixes-operations-preserved
infixes-operations-preserved h c = record {
  chain = chain_next _ _ _ _ _ _ _ _ _ _ c.new.result _ c.operations.invariant.chain
      (search rules) c.in_ok-name.ensures.read c.in_ok-inner.ensures
      c.in_ok-right.ensures.read (search rules) (search rules);
  no_more = omega (arith, c.in_ok-name.ensures.fewer, c.in_ok-right.ensures.fewer, c.operations.invariant.no_more);
}

pub expression-returns-in_err-first-clause-halts : goal.expression-returns-in_err-first-clause-halts
expression-returns-in_err-first-clause-halts h c = search (steps, rules)

pub expression-returns-in_err-rest-clause-halts : goal.expression-returns-in_err-rest-clause-halts
expression-returns-in_err-rest-clause-halts h c = search (steps, rules)

pub expression-returns-clause-read : goal.expression-returns-clause-read
expression-returns-clause-read h c = search (steps, rules)

pub simple-returns-in_err-head-clause-halts : goal.simple-returns-in_err-head-clause-halts
simple-returns-in_err-head-clause-halts h c = search (steps, rules)

pub simple-returns-in_err-sorts-clause-halts : goal.simple-returns-in_err-sorts-clause-halts
simple-returns-in_err-sorts-clause-halts h c = search (steps, rules)

pub simple-returns-clause-read : goal.simple-returns-clause-read
simple-returns-clause-read h c = search (steps, rules)

pub head-returns-in_err-inner-clause-halts : goal.head-returns-in_err-inner-clause-halts
head-returns-in_err-inner-clause-halts h c = search (steps, rules)

pub head-returns-in_err-name-clause-halts : goal.head-returns-in_err-name-clause-halts
head-returns-in_err-name-clause-halts h c = search (steps, rules)

pub head-returns-in_err-arguments-clause-halts : goal.head-returns-in_err-arguments-clause-halts
head-returns-in_err-arguments-clause-halts h c = search (steps, rules)

pub head-returns-in_ok-arguments-clause-read : goal.head-returns-in_ok-arguments-clause-read
head-returns-in_ok-arguments-clause-read h c = search (steps, rules)

pub group-returns-in_err-pass-clause-halts : goal.group-returns-in_err-pass-clause-halts
group-returns-in_err-pass-clause-halts h c = search (steps, rules)

pub group-returns-in_err-expression-clause-halts : goal.group-returns-in_err-expression-clause-halts
group-returns-in_err-expression-clause-halts h c = search (steps, rules)

pub group-returns-in_err-pass-2-clause-halts : goal.group-returns-in_err-pass-2-clause-halts
group-returns-in_err-pass-2-clause-halts h c = search (steps, rules)

pub group-returns-clause-read : goal.group-returns-clause-read
group-returns-clause-read h c = search (steps, rules)

pub arguments-returns-in_err-pass-clause-halts : goal.arguments-returns-in_err-pass-clause-halts
arguments-returns-in_err-pass-clause-halts h c = search (steps, rules)

pub arguments-returns-in_err-all-clause-halts : goal.arguments-returns-in_err-all-clause-halts
arguments-returns-in_err-all-clause-halts h c = search (steps, rules)

pub arguments-returns-in_err-pass-2-clause-halts : goal.arguments-returns-in_err-pass-2-clause-halts
arguments-returns-in_err-pass-2-clause-halts h c = search (steps, rules)

pub arguments-returns-in_ok-pass-2-clause-read : goal.arguments-returns-in_ok-pass-2-clause-read
arguments-returns-in_ok-pass-2-clause-read h c = search (steps, rules)

pub group-returns-in_err-inner-clause-halts : goal.group-returns-in_err-inner-clause-halts
group-returns-in_err-inner-clause-halts h c = grind (arith, steps)

pub arguments-returns-in_err-inner-clause-halts : goal.arguments-returns-in_err-inner-clause-halts
arguments-returns-in_err-inner-clause-halts h c = grind (arith, steps)

pub arguments-returns-else-at-clause-read : goal.arguments-returns-else-at-clause-read
arguments-returns-else-at-clause-read h c = search (steps, rules)

pub infixes-returns-in_err-name-clause-halts : goal.infixes-returns-in_err-name-clause-halts
infixes-returns-in_err-name-clause-halts h c = search (chain_steps, rules)

pub infixes-returns-in_err-inner-clause-halts : goal.infixes-returns-in_err-inner-clause-halts
infixes-returns-in_err-inner-clause-halts h c = grind (arith, chain_steps)

pub infixes-returns-in_err-right-clause-halts : goal.infixes-returns-in_err-right-clause-halts
infixes-returns-in_err-right-clause-halts h c = search (chain_steps, rules)

pub infixes-returns-in_err-push-clause-halts : goal.infixes-returns-in_err-push-clause-halts
infixes-returns-in_err-push-clause-halts h c = grind (arith, chain_steps)

pub infixes-returns-clause-read : goal.infixes-returns-clause-read
infixes-returns-clause-read h c = search (chain_steps, rules)

pub head-returns-in_err-grouped-clause-halts : goal.head-returns-in_err-grouped-clause-halts
head-returns-in_err-grouped-clause-halts h c = grind (arith, steps)

pub head-returns-in_ok-grouped-clause-read : goal.head-returns-in_ok-grouped-clause-read
head-returns-in_ok-grouped-clause-read h c = grind (arith, steps)

pub expressions-returns-in_err-first-clause-halts : goal.expressions-returns-in_err-first-clause-halts
expressions-returns-in_err-first-clause-halts h c = search (loop_steps, rules)

pub expressions-returns-in_err-all-clause-halts : goal.expressions-returns-in_err-all-clause-halts
expressions-returns-in_err-all-clause-halts h c = search (loop_steps, rules)

pub expressions-returns-in_err-insert-clause-halts : goal.expressions-returns-in_err-insert-clause-halts
expressions-returns-in_err-insert-clause-halts h c = grind (arith, loop_steps)

pub expressions-returns-clause-read : goal.expressions-returns-clause-read
expressions-returns-clause-read h c = grind (arith, loop_steps)

pub further_expressions-returns-in_err-pass-clause-halts : goal.further_expressions-returns-in_err-pass-clause-halts
further_expressions-returns-in_err-pass-clause-halts h c = search (loop_steps, rules)

pub further_expressions-returns-in_err-next-clause-halts : goal.further_expressions-returns-in_err-next-clause-halts
further_expressions-returns-in_err-next-clause-halts h c = search (loop_steps, rules)

pub further_expressions-returns-in_err-push-clause-halts : goal.further_expressions-returns-in_err-push-clause-halts
further_expressions-returns-in_err-push-clause-halts h c = grind (arith, loop_steps)

pub further_expressions-returns-clause-read : goal.further_expressions-returns-clause-read
further_expressions-returns-clause-read h c = search (loop_steps, rules)
