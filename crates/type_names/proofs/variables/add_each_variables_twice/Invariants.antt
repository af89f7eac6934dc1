use Rattle.std.proofs.Common.{◌≡◌, ◌++◌, take, map}
use Rattle.std.specs.List.{flat_map}
use Rattle.type_names.specs.DuplicateNames.{variables_twice}
use Rattle.type_names.proofs.variables.add_each_variables_twice.Given as goal

abbrev pub invariant-loop-list : goal.invariant-loop-list
invariant-loop-list l = l.refusals.items ≡ l.initial.refusals.items ++ flat_map variables_twice (map (λ f. f.now) (take l.list-index l.lists))
