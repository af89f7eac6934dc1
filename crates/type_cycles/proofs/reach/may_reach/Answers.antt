use Rattle.std.proofs.Common.{[], ◌∙◌, sym}
use Rattle.std.proofs.lemmas.List.{get_or_default}
use Rattle.type_cycles.proofs.Reaching.{no_cycle_unlinked}
use Rattle.type_cycles.proofs.reach.may_reach.Goals as goal

pub returns-then-are_none : goal.returns-then-are_none
returns-then-are_none c = λ h. no_cycle_unlinked c.args.links.now c.args.from c.requires
    (sym (get_or_default c.args.links.now c.args.from c.index-links-from.result [] c.requires) ∙ sym c.index-links-from.is ∙ sym c.as_slice.ensures ∙ c.are_none.ensures c.if-are_none.true)
