use Rattle.std.proofs.Common.{◌≡◌, ◌+◌, arith, sym, ap, ◌∙◌, length, None}
use Rattle.std.specs.List.{slice_index_or}
use Rattle.type_cycles.specs.Cycles.{ways_to}
use Rattle.type_cycles.proofs.Firsts.{first_is, first_is_none, is_there}
use Rattle.type_cycles.proofs.Reached.{none_by}
use Rattle.type_cycles.proofs.cycle.cycle_of.Goals as goal

pub returns-then-is_some : goal.returns-then-is_some
returns-then-is_some c =
    let made : c.in_ok-ways-2.ways.items ≡ ways_to c.args.links.now c.args.number (c.loop-steps._steps + 1) = c.in_ok-ways-2.ensures c.args.number c.loop-steps._steps (c.deref.ensures.value ∙ c.loop-steps.invariant.ways) in
    sym (first_is (λ n. slice_index_or (ways_to c.args.links.now c.args.number n) c.args.number None) 1 (length c.args.links.now) (c.loop-steps._steps + 1) c.in_ok-found.found (omega arith) (omega arith)
    (λ n from before. c.loop-steps.invariant.none n from (omega arith))
    (sym (c.in_ok-found.ensures ∙ ap (λ z. slice_index_or z c.args.number None) (c.deref-in-loop-steps.ensures.value ∙ made)))
    (is_there c.in_ok-found.found (sym c.is_some.ensures ∙ c.if-is_some.true)))

pub returns-then-are_none : goal.returns-then-are_none
returns-then-are_none c =
    let made : c.in_ok-ways-2.ways.items ≡ ways_to c.args.links.now c.args.number (c.loop-steps._steps + 1) = c.in_ok-ways-2.ensures c.args.number c.loop-steps._steps (c.deref.ensures.value ∙ c.loop-steps.invariant.ways) in
    sym (none_by c.args.links.now c.args.number c.loop-steps._steps c.loop-steps.invariant.none
    (λ k. sym (ap (λ z. slice_index_or z k None) (c.deref-in-loop-steps-2.ensures.value ∙ made)) ∙ c.are_none.ensures c.if-are_none.true k))

pub returns : goal.returns
returns c = sym (first_is_none (λ n. slice_index_or (ways_to c.args.links.now c.args.number n) c.args.number None) 1 (length c.args.links.now) (λ n from within. c.loop-steps.invariant.none n from (omega arith)))
