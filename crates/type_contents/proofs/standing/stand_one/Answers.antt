use Rattle.std.proofs.Common.{map}
use Rattle.type_contents.specs.FormalTypes as formal
use Rattle.type_contents.specs.Numbering as numbering
use Rattle.type_contents.specs.Views.{formal_at, parts_at}
use Rattle.std.proofs.Common.{ap, sym, ◌∙◌}
use Rattle.type_contents.specs.declared.schedule.Links.{Links}
use Rattle.type_contents.proofs.Standings.{linked_at, one_stands}
use Rattle.type_contents.proofs.standing.stand_one.Goals as goal

pub standing_from-requires : goal.standing_from-requires
standing_from-requires c = c.deref-2.ensures.value ∙ ap (λ (m : Links). m.numbers.items) (sym c.index-linked-number.is) ∙ linked_at c.args.types.now c.args.linked.now c.args.number c.index-linked-number.result c.index-types-number.result c.requires.linked c.requires.number c.index-linked-number.is c.index-types-number.is

pub returns-clause-settled : goal.returns-clause-settled
returns-clause-settled c n ready settled =
    one_stands c.args.types.now c.args.found.now.items n c.args.number c.in_ok-standing.standing c.index-types-number.result c.requires.length c.requires.number c.index-types-number.is
    (c.in_ok-standing.ensures.formal ∙ ap (λ z. formal.is_formal_from c.args.types.now (map formal_at z) c.index-types-number.result) c.deref.ensures.value)
    (c.in_ok-standing.ensures.parts ∙ ap (λ z. numbering.parts_from c.args.types.now (map parts_at z) c.index-types-number.result) c.deref.ensures.value) ready settled
