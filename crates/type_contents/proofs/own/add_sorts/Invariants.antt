use Rattle.std.proofs.Common.{◌≡◌, map, ◌++◌, take}
use Rattle.type_contents.specs.Views.{described_of}
use Rattle.type_contents.specs.Own as own
use Rattle.type_contents.proofs.own.add_sorts.Given as goal

abbrev pub invariant-loop-name : goal.invariant-loop-name
invariant-loop-name l = map described_of l.all.items ≡ map described_of l.initial.all.items ++ map own.declared_sort (take l.name-index l.names)
