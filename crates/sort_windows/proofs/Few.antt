-- Data that fit together have few operations and few sorts.
use Rattle.std.proofs.Common.{◌<◌, ◌^◌, length, subst}
use Rattle.std.proofs.lemmas.List.{length-map}
use Rattle.spec_core.specs.declared.equation.DataSpec.{DataSpec}
use Rattle.spec_core.specs.Sorts.{FitsData}
use Rattle.spec_core.specs.Theories.{theory_of, operation_of}

pub few_operations : (algebra : DataSpec) → FitsData (theory_of algebra) → length algebra.signature.ops.items < 2 ^ 32
few_operations algebra h =
    let few = h.operations_are_few in
    subst (λ n. n < 2 ^ 32) (length-map algebra.signature.ops.items operation_of) few

pub few_sorts : (algebra : DataSpec) → FitsData (theory_of algebra) → length algebra.signature.sorts.items < 2 ^ 32
few_sorts algebra h = h.sorts_are_few
