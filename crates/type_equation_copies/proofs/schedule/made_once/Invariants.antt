use Rattle.std.proofs.Common.{length, ◌≡◌}
use Rattle.type_equation_copies.specs.Views.{stated_by, AreEquationsSettled}
use Rattle.type_equation_copies.proofs.schedule.made_once.Given as goal

abbrev pub invariant-loop-found : goal.invariant-loop-found
invariant-loop-found l = record {
  length : length l.found.items ≡ length l.prepared.types.now;
  settled : AreEquationsSettled l.prepared.types.now (stated_by l.own) l.found.items l._found;
}
