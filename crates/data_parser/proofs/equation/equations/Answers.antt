use Rattle.std.proofs.Common.{rules, arith}
use Rattle.data_parser.proofs.Equations.{equations_next, equation_steps}
use Rattle.data_parser.proofs.equation.equations.Goals as goal

pub equations-preserved : goal.equations-preserved
equations-preserved c = record {
  on = equations_next _ _ _ _ _ _ c.in_ok-next.next _ c.equations.invariant.on (search rules) c.in_ok-next.ensures.read
      (search rules) c.in_ok-pass.ensures.read (search rules);
  no_more = omega (arith, c.in_ok-next.ensures.fewer, c.in_ok-pass.ensures.fewer, c.equations.invariant.no_more);
}

pub returns-in_err-next-clause-halts : goal.returns-in_err-next-clause-halts
returns-in_err-next-clause-halts c = search (equation_steps, rules)

pub returns-in_err-push-clause-halts : goal.returns-in_err-push-clause-halts
returns-in_err-push-clause-halts c = grind (arith, equation_steps)

pub returns-in_err-pass-clause-halts : goal.returns-in_err-pass-clause-halts
returns-in_err-pass-clause-halts c = search (equation_steps, rules)

pub returns-then-not-at-clause-read : goal.returns-then-not-at-clause-read
returns-then-not-at-clause-read c = grind (arith, equation_steps)

pub returns-clause-read : goal.returns-clause-read
returns-clause-read c = search (equation_steps, rules)
