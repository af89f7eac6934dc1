use Rattle.std.proofs.Common.{ap, sym, ◌∙◌}
use Rattle.type_contents.specs.declared.schedule.Links.{Links}
use Rattle.type_contents.proofs.Standings.{linked_at}
use Rattle.type_contents.proofs.standing.next_standings.Goals as goal

pub standing_from-requires : goal.standing_from-requires
standing_from-requires c = c.deref.ensures.value ∙ ap (λ (m : Links). m.numbers.items) (sym c.index-linked-i.is) ∙ linked_at c.args.types.now c.args.linked.now c.loop-i.i c.index-linked-i.result c.index-types-i.result c.requires c.loop-i-test.true c.index-linked-i.is c.index-types-i.is
