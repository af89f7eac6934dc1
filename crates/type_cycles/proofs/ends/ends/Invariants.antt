use Rattle.type_cycles.specs.Ends.{MarksEnds}
use Rattle.type_cycles.proofs.ends.ends.Given as goal

abbrev pub invariant-loop-pass : goal.invariant-loop-pass
invariant-loop-pass l = MarksEnds l.links l.marks.items
