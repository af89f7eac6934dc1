use Rattle.type_cycles.specs.Ends.{MarksEnds}
use Rattle.type_cycles.proofs.ends.mark_backward.Given as goal

abbrev pub invariant-loop-behind : goal.invariant-loop-behind
invariant-loop-behind l = MarksEnds l.links l.marks
