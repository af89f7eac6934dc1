use Rattle.std.proofs.Common.{map, Some}
use Rattle.type_contents.specs.Contents as contents
use Rattle.type_contents.specs.Views.{made_at}
use Rattle.std.proofs.Common.{ap, sym, ◌∙◌}
use Rattle.type_contents.specs.declared.schedule.Links.{Links}
use Rattle.type_contents.proofs.Made.{made_by_names}
use Rattle.type_contents.proofs.Standings.{linked_at}
use Rattle.type_contents.proofs.Schedules.{within_set_grown, one_settled}
use Rattle.type_contents.proofs.contents.make_one.Goals as goal

pub returns-clause-within : goal.returns-clause-within
returns-clause-within c = within_set_grown c.args.table.now c.made_from.new.table c.args.made.now.items c.args.number (Some c.in_ok-numbers.numbers) c.made_from.ensures.kept c.requires.within c.in_ok-numbers.ensures.within

pub returns-clause-settled : goal.returns-clause-settled
returns-clause-settled c n ready settled =
    one_settled c.args.types.now c.args.table.now c.made_from.new.table c.args.made.now.items n c.args.number c.in_ok-numbers.numbers c.index-types-number.result c.requires.within c.made_from.ensures.kept c.requires.length c.requires.number c.index-types-number.is
    (c.in_ok-numbers.ensures.content
    ∙ made_by_names c.args.types.now (map (made_at c.args.table.now) c.deref.result.now) c.deref-2.result.now c.index-types-number.result (c.deref-2.ensures.value ∙ ap (λ (m : Links). m.numbers.items) (sym c.index-linked-number.is) ∙ linked_at c.args.types.now c.args.linked.now c.args.number c.index-linked-number.result c.index-types-number.result c.requires.linked c.requires.number c.index-linked-number.is c.index-types-number.is)
    ∙ ap (λ z. contents.made_from c.args.types.now (map (made_at c.args.table.now) z) c.index-types-number.result) c.deref.ensures.value) ready settled
