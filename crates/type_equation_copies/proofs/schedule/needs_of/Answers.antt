use Rattle.std.proofs.Common.{◌≡◌, IfOk, map, subst, ap, ◌∙◌}
use Rattle.type_contents.specs.declared.schedule.Links.{Links}
use Rattle.type_contents.specs.Numbering.{parts}
use Rattle.type_contents.specs.Views.{parts_at}
use Rattle.type_contents.specs.Uses.{links}
use Rattle.type_equation_copies.specs.Needs.{with_parts}
use Rattle.type_equation_copies.proofs.Schedules.{needs_joined}
use Rattle.type_equation_copies.proofs.schedule.needs_of.Goals as goal

pub returns : goal.returns
returns c =
    let types = c.args.prepared.now.types.now in
    subst (λ z. IfOk c.all_with_parts.result (λ all. map (λ (l : Links). l.numbers.items) all.items ≡ z))
    (ap (λ t. map (with_parts t) (map (λ (l : Links). l.numbers.items) c.deref-2.result.now)) (ap (map parts_at) c.deref.ensures.value ∙ c.requires.parts)
    ∙ ap (λ l. map (with_parts (parts types)) (map (λ (l : Links). l.numbers.items) l)) c.deref-2.ensures.value
    ∙ ap (map (with_parts (parts types))) c.in_ok-linked.ensures
    ∙ needs_joined (parts types) (links types) types)
    c.all_with_parts.ensures
