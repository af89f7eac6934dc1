use Rattle.std.proofs.Common.{[], ap, ◌∙◌}
use Rattle.std.specs.List.{slice_index_or}
use Rattle.std.proofs.lemmas.List.{get_or_default}
use Rattle.type_cycles.specs.Cycles.{way_from}
use Rattle.type_cycles.proofs.Firsts.{ranged_next}
use Rattle.type_cycles.proofs.ways.next_ways.Goals as goal

pub loop-number-preserved : goal.loop-number-preserved
loop-number-preserved c = ranged_next (λ k. way_from c.args.ways.now k (slice_index_or c.args.links.now k [])) _ _ _ c.loop-number.number c.loop-number.invariant c.in_ok-push.ensures.items
    (c.in_ok-way_from.ensures ∙ ap (way_from c.args.ways.now c.loop-number.number) (c.as_slice.ensures ∙ c.index-links-number.is ∙ get_or_default c.args.links.now c.loop-number.number c.index-links-number.result [] c.loop-number-test.true))
