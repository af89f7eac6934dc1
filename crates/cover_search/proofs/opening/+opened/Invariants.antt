use Rattle.std.proofs.Common.{◌≡◌, map}
use Rattle.spec_core.specs.Terms.{term_of}
use Rattle.cover_search.proofs.Facing.{NotFaced}
use Rattle.cover_search.proofs.opening.+opened.Given as goal

abbrev pub invariant-opened_any-loop-i : goal.invariant-opened_any-loop-i
invariant-opened_any-loop-i l = record {
  same : map term_of l.all.items ≡ map term_of l.patterns;
  before : NotFaced l.i l.rows l.patterns;
}
