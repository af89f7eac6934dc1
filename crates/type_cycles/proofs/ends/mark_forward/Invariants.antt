use Rattle.type_cycles.specs.Ends.{MarksEnds}
use Rattle.type_cycles.proofs.ends.mark_forward.Given as goal

abbrev pub invariant-loop-number : goal.invariant-loop-number
invariant-loop-number l = MarksEnds l.links l.marks
