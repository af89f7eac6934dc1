use Rattle.std.proofs.Common.{ℕ}
use Rattle.spec_core.specs.Theories.{theory_of}
use Rattle.cover_search.specs.Constructors.{AreConstructorsBelow, constructors_at}
use Rattle.cover_search.proofs.constructors.ConstructorIndex.of.Given as goal

abbrev pub invariant-loop-i : goal.invariant-loop-i
invariant-loop-i l = (s : ℕ) → AreConstructorsBelow (theory_of l.algebra) s l.i (constructors_at l.index s)
