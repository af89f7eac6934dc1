use Rattle.std.proofs.Common.{◌≡◌, take, map}
use Rattle.std.specs.List.{flat_map}
use Rattle.type_contents.specs.Views.{described_of}
use Rattle.type_names.specs.DuplicateNames.{declared_in}
use Rattle.type_names.proofs.declared_items.all_declared.Given as goal

abbrev pub invariant-loop-definition : goal.invariant-loop-definition
invariant-loop-definition l = map described_of l.all.items ≡ flat_map declared_in (take l.definition-index l.types)
