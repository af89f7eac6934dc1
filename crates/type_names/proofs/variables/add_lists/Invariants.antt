use Rattle.std.proofs.Common.{◌≡◌, ◌++◌, take, map}
use Rattle.type_names.proofs.variables.add_lists.Given as goal

abbrev pub invariant-loop-list : goal.invariant-loop-list
invariant-loop-list l = map (λ f. f.now) l.all.items ≡ map (λ f. f.now) l.initial.all.items ++ take l.list-index l.lists
