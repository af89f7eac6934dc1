use Rattle.std.proofs.Common.{map, ap, ◌∙◌}
use Rattle.type_contents.specs.Numbering.{all_sorts, all_operations}
use Rattle.type_contents.specs.Views.{described_of}
use Rattle.type_data.specs.Data as data_specs
use Rattle.type_data.proofs.Parts.{same_numbers, numbers_of_those}
use Rattle.type_data.proofs.data.data_numbers.Goals as goal

pub returns : goal.returns
returns c =
    let types = c.args.types.now in
    let wanted = data_specs.data_numbers types in
    same_numbers c.in_ok-sort_numbers.sort_numbers.items wanted.sorts c.in_ok-operation_numbers.operation_numbers.items wanted.operations
    (c.in_ok-sort_numbers.ensures ∙ numbers_of_those (map described_of c.args.sorts.now) (data_specs.data_sorts types) (map described_of c.deref.result.now) (all_sorts types) c.requires.data_sorts (ap (map described_of) c.deref.ensures.value ∙ c.requires.sorts))
    (c.in_ok-operation_numbers.ensures ∙ numbers_of_those (map described_of c.args.operations.now) (data_specs.data_operations types) (map described_of c.deref-2.result.now) (all_operations types) c.requires.data_operations (ap (map described_of) c.deref-2.ensures.value ∙ c.requires.operations))
