use Rattle.std.proofs.Common.{◌≡◌, map, ◌++◌, take}
use Rattle.type_contents.specs.Views.{described_of}
use Rattle.type_contents.specs.Own as own
use Rattle.type_contents.proofs.own.add_declaration.Given as goal

abbrev pub invariant-loop-declared : goal.invariant-loop-declared
invariant-loop-declared l = map described_of l.all.items ≡ map described_of l.initial.all.items ++ map (own.declared_operation l.declaration) (take l.declared-index l.declaration.names.items)
