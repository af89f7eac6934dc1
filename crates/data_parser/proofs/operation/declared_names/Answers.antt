use Rattle.std.proofs.Common.{rules, arith}
use Rattle.data_parser.proofs.OperationNames.{names_first, names_next, name_steps}
use Rattle.data_parser.proofs.operation.declared_names.Goals as goal

pub names-init : goal.names-init
names-init c = record {
  on = names_first _ _ _ c.in_ok-first.first _ _ c.in_ok-first.ensures.read c.in_ok-first.ensures.place
      (search rules) c.is_now_between-between.ensures;
  fewer = c.in_ok-first.ensures.fewer;
}

pub names-preserved : goal.names-preserved
names-preserved c = record {
  on = names_next _ _ _ _ _ _ _ c.in_ok-next.next _ _ c.names.invariant.on
      (search rules) c.in_ok-pass.ensures.read c.in_ok-next.ensures.read
      c.in_ok-next.ensures.place (search rules) c.is_now_between-between-in-names.ensures;
  fewer = omega (arith, c.in_ok-pass.ensures.fewer, c.in_ok-next.ensures.fewer, c.names.invariant.fewer);
}

pub returns-in_err-first-clause-halts : goal.returns-in_err-first-clause-halts
returns-in_err-first-clause-halts c = search (name_steps, rules)

pub returns-in_err-push-clause-halts : goal.returns-in_err-push-clause-halts
returns-in_err-push-clause-halts c = grind (arith, name_steps)

pub returns-in_err-pass-clause-halts : goal.returns-in_err-pass-clause-halts
returns-in_err-pass-clause-halts c = search (name_steps, rules)

pub returns-in_err-next-clause-halts : goal.returns-in_err-next-clause-halts
returns-in_err-next-clause-halts c = search (name_steps, rules)

pub returns-in_err-push-2-clause-halts : goal.returns-in_err-push-2-clause-halts
returns-in_err-push-2-clause-halts c = grind (arith, name_steps)
