use Rattle.std.proofs.Common.{◌≡◌, take, map}
use Rattle.std.specs.List.{flat_map}
use Rattle.type_names.specs.DuplicateNames.{lists_in}
use Rattle.type_names.proofs.variables.all_lists.Given as goal

abbrev pub invariant-loop-definition : goal.invariant-loop-definition
invariant-loop-definition l = map (λ f. f.now) l.all.items ≡ flat_map lists_in (take l.definition-index l.types)
