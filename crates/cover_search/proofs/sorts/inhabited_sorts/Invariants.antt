use Rattle.spec_core.specs.Theories.{theory_of}
use Rattle.cover_search.specs.Sorts.{AllInhabited}
use Rattle.cover_search.proofs.sorts.inhabited_sorts.Given as goal

abbrev pub invariant-loop-round : goal.invariant-loop-round
invariant-loop-round l = AllInhabited (theory_of l.algebra) l.set
