use Rattle.std.proofs.Common.{map, ap, ◌∙◌}
use Rattle.type_contents.specs.Contents.{contents}
use Rattle.type_contents.specs.FormalTypes.{formal_types}
use Rattle.type_contents.specs.Numbering.{all_sorts}
use Rattle.type_contents.specs.Views.{described_of}
use Rattle.type_data.proofs.Lists.{data_filter}
use Rattle.type_data.proofs.data.data_sorts.Goals as goal

pub returns : goal.returns
returns c =
    let types = c.args.types.now in
    c.in_ok-some.ensures
    ∙ data_filter c.deref.result.now (formal_types types) c.args.flat.now.contents (contents types) (map described_of c.deref-2.result.now) (all_sorts types) (c.deref.ensures.value ∙ c.requires.formal) c.requires.contents (ap (map described_of) c.deref-2.ensures.value ∙ c.requires.sorts)
