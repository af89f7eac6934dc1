use Rattle.std.proofs.Common.{map, take}
use Rattle.spec_core.specs.Constructors.{ArePatterns}
use Rattle.spec_core.specs.Terms.{term_of, terms}
use Rattle.spec_core.specs.Theories.{theory_of}
use Rattle.equation_faults.proofs.patterns.+patterns.Given as goal

abbrev pub invariant-are_patterns-loop-term : goal.invariant-are_patterns-loop-term
invariant-are_patterns-loop-term l = ArePatterns (theory_of l.algebra) (terms (map term_of (take l.term-index l.all)))
