use Rattle.std.proofs.Common.{arith, sym, ap, ◌∙◌, None}
use Rattle.std.specs.List.{slice_index_or}
use Rattle.type_cycles.proofs.Firsts.{is_there}
use Rattle.static_call_cycles.proofs.Cycles.{way_is, no_way, no_way_at_all}
use Rattle.static_call_cycles.proofs.way.way.Goals as goal

pub returns-then-is_some : goal.returns-then-is_some
returns-then-is_some c = sym (way_is c.args.links.now c.args.from c.args.to c.loop-steps._steps c.in_ok-found.found c.loop-steps-test.true c.loop-steps.invariant.none
    (sym (c.in_ok-found.ensures ∙ ap (λ z. slice_index_or z c.args.from None) (c.deref.ensures.value ∙ c.loop-steps.invariant.ways)))
    (is_there c.in_ok-found.found (sym c.is_some.ensures ∙ c.if-is_some.true)))

pub returns-then-are_none : goal.returns-then-are_none
returns-then-are_none c = sym (no_way c.args.links.now c.args.from c.args.to c.loop-steps._steps c.loop-steps.invariant.none
    (λ k. sym (ap (λ z. slice_index_or z k None) (c.deref-in-loop-steps.ensures.value ∙ c.loop-steps.invariant.ways)) ∙ c.are_none.ensures c.if-are_none.true k))

pub returns : goal.returns
returns c = sym (no_way_at_all c.args.links.now c.args.from c.args.to c.loop-steps._steps (omega arith) c.loop-steps.invariant.none)
