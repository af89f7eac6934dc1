use Rattle.std.proofs.Common.{◌≡◌, map, take}
use Rattle.type_contents.specs.FormalTypes as formal
use Rattle.type_contents.specs.Numbering as numbering
use Rattle.type_contents.specs.Views.{formal_at, parts_at}
use Rattle.type_contents.proofs.standing.next_standings.Given as goal

abbrev pub invariant-loop-i : goal.invariant-loop-i
invariant-loop-i l = record {
  formal : map formal_at l.next.items ≡ map (formal.is_formal_from l.types (map formal_at l.found)) (take l.i l.types);
  parts : map parts_at l.next.items ≡ map (numbering.parts_from l.types (map parts_at l.found)) (take l.i l.types);
}
