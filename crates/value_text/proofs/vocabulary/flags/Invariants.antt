use Rattle.std.proofs.Common.{◌≡◌, map, take}
use Rattle.spec_core.specs.Theories.{operation_of}
use Rattle.value_text.specs.Values.{is_shared}
use Rattle.value_text.proofs.vocabulary.flags.Given as goal

abbrev pub invariant-loop-declaration : goal.invariant-loop-declaration
invariant-loop-declaration l =
    l.flags.items ≡ map (is_shared (map operation_of l.declarations)) (map operation_of (take l.declaration-index l.declarations))
