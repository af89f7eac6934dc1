use Rattle.std.proofs.Common.{rules, arith}
use Rattle.lotos_ast.specs.SpecTrees.{where_item_tree}
use Rattle.syntax_cursor.proofs.Loops.{repeats_next, loop_steps}
use Rattle.syntax_cursor.proofs.Steps.{steps}
use Rattle.behaviour_parser.proofs.Items.{where_halts, type_reads, process_item_reads}
use Rattle.behaviour_parser.proofs.process.+process.Goals as goal

pub where_items-items-preserved : goal.where_items-items-preserved
where_items-items-preserved h c = record {
  repeats = repeats_next _ where_item_tree _ _ _ _ c.in_ok-next.next _ _ c.items.invariant.repeats (search rules) c.in_ok-next.ensures.read
      (search rules);
  no_more = omega (arith, c.in_ok-next.ensures.fewer, c.items.invariant.no_more);
}

pub items-returns-in_err-pass-clause-halts : goal.items-returns-in_err-pass-clause-halts
items-returns-in_err-pass-clause-halts h c = search (steps, rules)

pub items-returns-in_err-where_items-clause-halts : goal.items-returns-in_err-where_items-clause-halts
items-returns-in_err-where_items-clause-halts h c = search (where_halts, steps, rules)

pub items-returns-in_ok-where_items-clause-read : goal.items-returns-in_ok-where_items-clause-read
items-returns-in_ok-where_items-clause-read h c = search (steps, rules)

pub items-returns-else-at-clause-read : goal.items-returns-else-at-clause-read
items-returns-else-at-clause-read h c = search (steps, rules)

pub one_where_item-returns-in_err-read-clause-halts : goal.one_where_item-returns-in_err-read-clause-halts
one_where_item-returns-in_err-read-clause-halts h c = search (steps, rules)

pub one_where_item-returns-in_err-process-clause-halts : goal.one_where_item-returns-in_err-process-clause-halts
one_where_item-returns-in_err-process-clause-halts h c = search (steps, rules)

pub process-returns-in_err-inner-clause-halts : goal.process-returns-in_err-inner-clause-halts
process-returns-in_err-inner-clause-halts h c = grind (arith, steps)

pub process-returns-in_err-pass-clause-halts : goal.process-returns-in_err-pass-clause-halts
process-returns-in_err-pass-clause-halts h c = search (steps, rules)

pub process-returns-in_err-name-clause-halts : goal.process-returns-in_err-name-clause-halts
process-returns-in_err-name-clause-halts h c = search (steps, rules)

pub process-returns-in_err-gates-clause-halts : goal.process-returns-in_err-gates-clause-halts
process-returns-in_err-gates-clause-halts h c = search (steps, rules)

pub process-returns-in_err-parameters-clause-halts : goal.process-returns-in_err-parameters-clause-halts
process-returns-in_err-parameters-clause-halts h c = search (steps, rules)

pub process-returns-in_err-pass-2-clause-halts : goal.process-returns-in_err-pass-2-clause-halts
process-returns-in_err-pass-2-clause-halts h c = search (steps, rules)

pub process-returns-in_err-functionality-clause-halts : goal.process-returns-in_err-functionality-clause-halts
process-returns-in_err-functionality-clause-halts h c = search (steps, rules)

pub process-returns-in_err-pass-3-clause-halts : goal.process-returns-in_err-pass-3-clause-halts
process-returns-in_err-pass-3-clause-halts h c = search (steps, rules)

pub process-returns-in_err-behaviour-clause-halts : goal.process-returns-in_err-behaviour-clause-halts
process-returns-in_err-behaviour-clause-halts h c = search (steps, rules)

pub process-returns-in_err-items-clause-halts : goal.process-returns-in_err-items-clause-halts
process-returns-in_err-items-clause-halts h c = search (steps, rules)

pub process-returns-in_err-pass-4-clause-halts : goal.process-returns-in_err-pass-4-clause-halts
process-returns-in_err-pass-4-clause-halts h c = search (steps, rules)

pub process-returns-clause-read : goal.process-returns-clause-read
process-returns-clause-read h c = search (steps, rules)

pub where_items-returns-in_err-next-clause-halts : goal.where_items-returns-in_err-next-clause-halts
where_items-returns-in_err-next-clause-halts h c = search (loop_steps, rules)

pub where_items-returns-in_err-push-clause-halts : goal.where_items-returns-in_err-push-clause-halts
where_items-returns-in_err-push-clause-halts h c = grind (arith, loop_steps)

pub where_items-returns-clause-read : goal.where_items-returns-clause-read
where_items-returns-clause-read h c = search (loop_steps, rules)

pub one_where_item-returns-in_ok-read-clause-read : goal.one_where_item-returns-in_ok-read-clause-read
one_where_item-returns-in_ok-read-clause-read h c = grind (arith, type_reads)

pub one_where_item-returns-in_ok-process-clause-read : goal.one_where_item-returns-in_ok-process-clause-read
one_where_item-returns-in_ok-process-clause-read h c = grind (arith, process_item_reads)
