use Rattle.std.proofs.Common.{map, take}
use Rattle.equation_shapes.specs.Shapes.{MeetAll}
use Rattle.spec_core.specs.Terms.{term_of, terms}
use Rattle.equation_shapes.proofs.shape.+meets.Given as goal

abbrev pub invariant-meet_all-loop-i : goal.invariant-meet_all-loop-i
invariant-meet_all-loop-i l = MeetAll (terms (map term_of (take l.i l.left))) (terms (map term_of (take l.i l.right)))
