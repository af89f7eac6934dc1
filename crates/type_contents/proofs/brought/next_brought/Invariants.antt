use Rattle.std.proofs.Common.{◌≡◌, map, take}
use Rattle.type_contents.specs.Numbering as numbering
use Rattle.type_contents.specs.Views.{brought_at}
use Rattle.type_contents.proofs.brought.next_brought.Given as goal

abbrev pub invariant-loop-definition : goal.invariant-loop-definition
invariant-loop-definition l = map brought_at l.next.items ≡ map (numbering.brings l.types (map brought_at l.found)) (take l.definition-index l.types)
