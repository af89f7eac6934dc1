use Rattle.std.proofs.Common.{◌≡◌, ◌++◌, take, map}
use Rattle.std.specs.List.{flat_map}
use Rattle.type_names.specs.NameSets.{unless_known}
use Rattle.type_names.proofs.unknown.add_each_unless_known.Given as goal

abbrev pub invariant-loop-name : goal.invariant-loop-name
invariant-loop-name l = l.refusals.items ≡ l.initial.refusals.items ++ flat_map (unless_known l.known) (map (λ t. t.now) (take l.name-index l.names))
