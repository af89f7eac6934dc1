use Rattle.std.proofs.Common.{◌-◌, length}
use Rattle.spec_core.specs.Theories.{theory_of}
use Rattle.rewriter.specs.Index.{AreLinked}
use Rattle.rewriter.proofs.heads.FirstEquations.new.Given as goal

abbrev pub invariant-loop-i : goal.invariant-loop-i
invariant-loop-i l = record {
  linked : AreLinked (theory_of l.algebra) (length (theory_of l.algebra).equations - l.i) l.first.items l.next.items;
}
