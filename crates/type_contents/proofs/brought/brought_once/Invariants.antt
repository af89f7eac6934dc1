use Rattle.std.proofs.Common.{length, ◌≡◌}
use Rattle.type_contents.specs.Views.{IsBroughtSettled}
use Rattle.type_contents.proofs.brought.brought_once.Given as goal

abbrev pub invariant-loop-found : goal.invariant-loop-found
invariant-loop-found l = record {
  length : length l.found.items ≡ length l.types;
  settled : IsBroughtSettled l.types l.found.items l._found;
}
