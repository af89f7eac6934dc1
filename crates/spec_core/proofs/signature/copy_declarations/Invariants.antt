use Rattle.std.proofs.Common.{◌≡◌, map, take}
use Rattle.spec_core.specs.Theories.{operation_of}
use Rattle.spec_core.proofs.signature.copy_declarations.Given as goal

abbrev pub invariant-loop-declaration : goal.invariant-loop-declaration
invariant-loop-declaration l = map operation_of l.all.items ≡ map operation_of (take l.declaration-index l.declarations)
