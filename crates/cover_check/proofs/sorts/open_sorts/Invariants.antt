use Rattle.spec_core.specs.Theories.{theory_of}
use Rattle.cover_check.specs.Opening.{AllOpen}
use Rattle.cover_check.proofs.sorts.open_sorts.Given as goal

abbrev pub invariant-loop-round : goal.invariant-loop-round
invariant-loop-round l = AllOpen (theory_of l.algebra) l.set
