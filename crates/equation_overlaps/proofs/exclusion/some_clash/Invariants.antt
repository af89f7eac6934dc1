use Rattle.std.proofs.Common.{map, take}
use Rattle.spec_core.specs.Theories.{premise_of, theory_of}
use Rattle.equation_overlaps.specs.Exclusion.{SomeClash}
use Rattle.equation_overlaps.proofs.exclusion.some_clash.Given as goal

abbrev pub invariant-loop-one : goal.invariant-loop-one
invariant-loop-one l = SomeClash (theory_of l.algebra) (map premise_of (take l.one-index l.ones)) (map premise_of l.others) → ⊥
