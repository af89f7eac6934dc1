use Rattle.std.proofs.Common.{◌≡◌, map, ◌++◌, take}
use Rattle.type_contents.specs.Views.{described_of}
use Rattle.type_contents.specs.Own as own
use Rattle.std.specs.List.{flat_map}
use Rattle.type_contents.proofs.own.add_operations.Given as goal

abbrev pub invariant-loop-declaration : goal.invariant-loop-declaration
invariant-loop-declaration l = map described_of l.all.items ≡ map described_of l.initial.all.items ++ flat_map own.declared_operations (take l.declaration-index l.declarations)
