use Rattle.std.proofs.Common.{arith, sym, ◌∙◌, length}
use Rattle.spec_core.proofs.Options.{not_some}
use Rattle.type_cycles.specs.Cycles.{cycle_of}
use Rattle.type_cycles.proofs.Firsts.{first_is, first_is_none, is_there, none_more}
use Rattle.type_cycles.proofs.cycle.first_cycle.Goals as goal

pub returns-then-is_some : goal.returns-then-is_some
returns-then-is_some c =
    sym (first_is (cycle_of c.args.links.now) 0 (length c.args.links.now) c.loop-number.number c.in_ok-found.found (omega arith) (omega arith)
    (λ k from before. c.loop-number.invariant k before) (sym c.in_ok-found.ensures) (is_there c.in_ok-found.found (sym c.is_some.ensures ∙ c.if-is_some.true)))

pub loop-number-preserved : goal.loop-number-preserved
loop-number-preserved c =
    none_more (cycle_of c.args.links.now) c.loop-number.number c.loop-number.invariant
    (sym c.in_ok-found.ensures ∙ not_some c.in_ok-found.found (sym c.is_some.ensures ∙ c.if-is_some.false))

pub returns : goal.returns
returns c = sym (first_is_none (cycle_of c.args.links.now) 0 (length c.args.links.now) (λ k from within. c.loop-number.invariant k (omega arith)))
