use Rattle.std.proofs.Common.{◌≡◌, ◌++◌, take, map}
use Rattle.type_names.proofs.names.add_names.Given as goal

abbrev pub invariant-loop-name : goal.invariant-loop-name
invariant-loop-name l = map (λ t. t.now) l.all.items ≡ map (λ t. t.now) l.initial.all.items ++ take l.name-index l.names
