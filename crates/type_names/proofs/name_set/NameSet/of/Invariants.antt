use Rattle.std.proofs.Common.{map, take}
use Rattle.type_names.specs.NameSets.{IsSetOf}
use Rattle.type_names.proofs.name_set.NameSet.of.Given as goal

abbrev pub invariant-loop-name : goal.invariant-loop-name
invariant-loop-name l = IsSetOf l.set (map (λ t. t.now) (take l.name-index l.names))
