use Rattle.std.proofs.Common.{◌∙◌, ap, sym, []}
use Rattle.std.specs.List.{slice_index_or}
use Rattle.static_call_cycles.specs.Unguarded.{called}
use Rattle.static_call_cycles.proofs.Cycles.{linked_at}
use Rattle.static_call_cycles.proofs.unguarded.add_unguarded.Goals as goal

pub add_refusals_of-requires-clause-linked : goal.add_refusals_of-requires-clause-linked
add_refusals_of-requires-clause-linked c =
    ap (λ z. slice_index_or z c.loop-number.number []) (c.deref.ensures.value ∙ c.loop-number.invariant.links)
    ∙ linked_at c.args.all.now c.loop-number.number c.index-all-number.result c.loop-number-test.true c.index-all-number.is
    ∙ ap called (sym c.deref-in-loop-number.ensures.value)
