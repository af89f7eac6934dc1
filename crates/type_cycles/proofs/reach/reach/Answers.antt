use Rattle.std.proofs.Common.{[], ◌∙◌, arith}
use Rattle.std.proofs.lemmas.List.{get_or_default}
use Rattle.type_cycles.proofs.Reaching.{reached_new}
use Rattle.type_cycles.proofs.reach.reach.Goals as goal

pub returns-clause-reached : goal.returns-clause-reached
returns-clause-reached c =
    reached_new c.args.links.now c.args.number c.args.marks.now.items c.args.waiting.now.items _ c.as_slice.result.now (omega arith)
    (c.as_slice.ensures ∙ c.index-links-number.is ∙ get_or_default c.args.links.now c.args.number c.index-links-number.result [] (omega arith))
    c.in_ok-extend_from_slice.ensures.items
