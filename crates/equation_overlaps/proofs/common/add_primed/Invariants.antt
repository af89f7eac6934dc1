use Rattle.std.proofs.Common.{◌≡◌, ◌++◌, map, take}
use Rattle.equation_overlaps.specs.Common.{primed}
use Rattle.equation_overlaps.proofs.common.add_primed.Given as goal

abbrev pub invariant-loop-name : goal.invariant-loop-name
invariant-loop-name l = l.all.items ≡ l.initial.all.items ++ map primed (take l.name-index l.names)
