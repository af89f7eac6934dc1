use Rattle.std.proofs.Common.{length, ◌≡◌}
use Rattle.type_contents.specs.Views.{AreStandingsSettled}
use Rattle.type_contents.proofs.standing.standings_once.Given as goal

abbrev pub invariant-loop-found : goal.invariant-loop-found
invariant-loop-found l = record {
  length : length l.found.items ≡ length l.types;
  settled : AreStandingsSettled l.types l.found.items l._found;
}
