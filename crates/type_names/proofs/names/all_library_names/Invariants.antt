use Rattle.std.proofs.Common.{◌≡◌, take, map}
use Rattle.std.specs.List.{flat_map}
use Rattle.type_names.specs.UnknownTypes.{library_names}
use Rattle.type_names.proofs.names.all_library_names.Given as goal

abbrev pub invariant-loop-definition : goal.invariant-loop-definition
invariant-loop-definition l = map (λ t. t.now) l.all.items ≡ flat_map library_names (take l.definition-index l.types)
