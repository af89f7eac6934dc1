use Rattle.std.proofs.Common.{◌≡◌, map, [], false}
use Rattle.type_contents.specs.FormalTypes as formal
use Rattle.type_contents.specs.Numbering as numbering
use Rattle.type_contents.specs.Rounds.{rounds}
use Rattle.type_contents.specs.Views.{formal_at, parts_at}
use Rattle.type_contents.proofs.standing.standings_by_rounds.Given as goal

abbrev pub invariant-loop-round : goal.invariant-loop-round
invariant-loop-round l = record {
  formal : map formal_at l.found.items ≡ rounds false (formal.is_formal_from l.types) l.types l._round;
  parts : map parts_at l.found.items ≡ rounds [] (numbering.parts_from l.types) l.types l._round;
}
