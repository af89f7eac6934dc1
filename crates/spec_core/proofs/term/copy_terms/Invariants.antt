use Rattle.std.proofs.Common.{◌≡◌, map, take}
use Rattle.spec_core.specs.Terms.{term_of}
use Rattle.spec_core.proofs.term.copy_terms.Given as goal

abbrev pub invariant-loop-term : goal.invariant-loop-term
invariant-loop-term l = map term_of l.copied.items ≡ map term_of (take l.term-index l.all)
