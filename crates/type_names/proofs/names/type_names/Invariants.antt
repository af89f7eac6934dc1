use Rattle.std.proofs.Common.{◌≡◌, take, map}
use Rattle.std.specs.List.{flat_map}
use Rattle.type_names.specs.TypeCycles.{type_name}
use Rattle.type_names.proofs.names.type_names.Given as goal

abbrev pub invariant-loop-definition : goal.invariant-loop-definition
invariant-loop-definition l = map (λ t. t.now) l.all.items ≡ flat_map type_name (take l.definition-index l.types)
