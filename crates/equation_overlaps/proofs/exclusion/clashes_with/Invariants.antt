use Rattle.std.proofs.Common.{map, take}
use Rattle.spec_core.specs.Lists.{OneOf}
use Rattle.spec_core.specs.Theories.{premise_of, theory_of}
use Rattle.equation_overlaps.specs.Exclusion.{Clash}
use Rattle.equation_overlaps.proofs.exclusion.clashes_with.Given as goal

abbrev pub invariant-loop-other : goal.invariant-loop-other
invariant-loop-other l = OneOf (Clash (theory_of l.algebra) (premise_of l.one)) (map premise_of (take l.other-index l.others)) → ⊥
