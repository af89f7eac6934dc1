use Rattle.std.proofs.Common.{◌≡◌, map, take}
use Rattle.spec_core.specs.Theories.{operation_of}
use Rattle.type_contents.specs.Views.{described_of}
use Rattle.static_presentation.specs.Signatures.{operation_over}
use Rattle.static_presentation.proofs.signature.operations_over.Given as goal

abbrev pub invariant-loop-operation : goal.invariant-loop-operation
invariant-loop-operation l = map operation_of l.all.items ≡ map (operation_over (map described_of l.sorts)) (map described_of (take l.operation-index l.operations))
