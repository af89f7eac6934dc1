use Rattle.std.proofs.Common.{◌≡◌, take, map}
use Rattle.std.specs.List.{flat_map}
use Rattle.type_names.proofs.variables.names_in.Given as goal

abbrev pub invariant-loop-declaration : goal.invariant-loop-declaration
invariant-loop-declaration l = map (λ t. t.now) l.all.items ≡ flat_map (λ d. d.names.items) (take l.declaration-index l.list)
