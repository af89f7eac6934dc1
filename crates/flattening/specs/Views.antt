-- What the definitions see of the values of the code.
use Rattle.std.specs.Prelude.{List, ◌++◌, map}
use Rattle.type_contents.specs.Items.{Described}
use Rattle.type_contents.specs.Views.{described_of}
use Rattle.type_contents.specs.declared.flat.FlatData.{FlatData}

-- all sorts and operations, in the order of their numbers
abbrev pub all_of : FlatData → List Described
all_of flat = map described_of flat.sorts.items ++ map described_of flat.operations.items
