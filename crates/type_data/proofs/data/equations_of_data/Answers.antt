use Rattle.std.proofs.Common.{map, ap, sym, length, ◌∙◌}
use Rattle.type_contents.specs.FormalTypes.{formal_types}
use Rattle.type_images.specs.Images.{equation_image}
use Rattle.type_equation_copies.specs.Views.{made_at}
use Rattle.type_data.specs.Data as data_specs
use Rattle.type_data.proofs.Parts.{as_many}
use Rattle.type_data.proofs.data.equations_of_data.Goals as goal

pub data_equations-requires : goal.data_equations-requires
data_equations-requires c =
    ap length c.deref-2.ensures.value ∙ as_many c.args.types.now c.args.own.now c.args.flat.now.formal.items c.in_ok-found.found.items c.requires.own c.requires.formal c.in_ok-found.ensures
    ∙ sym (ap length c.deref.ensures.value)

pub returns : goal.returns
returns c =
    let types = c.args.types.now in
    c.in_ok-all.ensures
    ∙ ap (λ n. map (equation_image n) (data_specs.equations_in c.deref-2.result.now (map made_at c.deref.result.now))) c.requires.news
    ∙ ap (λ f. map (equation_image (data_specs.data_numbers types)) (data_specs.equations_in f (map made_at c.deref.result.now))) (c.deref-2.ensures.value ∙ c.requires.formal)
    ∙ ap (λ t. map (equation_image (data_specs.data_numbers types)) (data_specs.equations_in (formal_types types) t)) (ap (map made_at) c.deref.ensures.value ∙ c.in_ok-found.ensures)
