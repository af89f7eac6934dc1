use Rattle.std.proofs.Common.{◌≡◌, map, []}
use Rattle.type_contents.specs.Numbering as numbering
use Rattle.type_contents.specs.Rounds.{rounds}
use Rattle.type_contents.specs.Views.{brought_at}
use Rattle.type_contents.proofs.brought.brought_by_rounds.Given as goal

abbrev pub invariant-loop-round : goal.invariant-loop-round
invariant-loop-round l = map brought_at l.found.items ≡ rounds [] (numbering.brings l.types) l.types l._round
