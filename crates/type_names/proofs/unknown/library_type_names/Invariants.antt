use Rattle.std.proofs.Common.{◌≡◌, take, map}
use Rattle.std.specs.List.{flat_map}
use Rattle.type_names.specs.NameSets.{library_type_name}
use Rattle.type_names.proofs.unknown.library_type_names.Given as goal

abbrev pub invariant-loop-definition : goal.invariant-loop-definition
invariant-loop-definition l = map (λ t. t.now) l.all.items ≡ flat_map library_type_name (take l.definition-index l.types)
