use Rattle.std.proofs.Common.{◌≡◌, map, take}
use Rattle.type_contents.specs.Views.{formal_at}
use Rattle.type_contents.proofs.flat.formal_types.Given as goal

abbrev pub invariant-loop-standing : goal.invariant-loop-standing
invariant-loop-standing l = l.all.items ≡ map formal_at (take l.standing-index l.standings)
