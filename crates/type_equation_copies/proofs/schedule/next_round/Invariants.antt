use Rattle.std.proofs.Common.{◌≡◌, map, take}
use Rattle.std.specs.List.{zip}
use Rattle.type_equation_copies.specs.Contents as contents
use Rattle.type_equation_copies.specs.Views.{made_at, stated_by}
use Rattle.type_equation_copies.proofs.schedule.next_round.Given as goal

abbrev pub invariant-loop-i : goal.invariant-loop-i
invariant-loop-i l = map made_at l.next.items ≡ map (contents.made_from l.prepared.types.now (map made_at l.found)) (take l.i (zip l.prepared.types.now (stated_by l.own)))
