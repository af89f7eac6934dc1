use Rattle.std.proofs.Common.{◌≡◌, map, drop}
use Rattle.cover_search.specs.Search.{faced_any}
use Rattle.spec_core.specs.Terms.{term_of, terms}
use Rattle.cover_search.proofs.opening.+faced.Given as goal

abbrev pub invariant-faced_any-loop-i : goal.invariant-faced_any-loop-i
invariant-faced_any-loop-i l = faced_any (terms (map term_of l.rows)) (terms (map term_of l.patterns)) ≡ faced_any (terms (map term_of (drop l.i l.rows))) (terms (map term_of (drop l.i l.patterns)))
