use Rattle.std.proofs.Common.{ap, ◌∙◌}
use Rattle.spec_core.specs.Theories.{equation_of}
use Rattle.type_images.specs.Same.{is_in}
use Rattle.type_images.specs.Groups.{equations_of, group_at}
use Rattle.type_images.proofs.Grouped.{in_group}
use Rattle.type_images.proofs.set.EquationSet.has.Goals as goal

pub returns : goal.returns
returns c =
    let e = equation_of c.args.equation.now in
    c.is_among.ensures
    ∙ ap (λ all. is_in all e) (c.group.ensures ∙ ap (group_at c.args.self.now) c.key_of.ensures ∙ c.requires _)
    ∙ in_group (equations_of c.args.self.now) e
