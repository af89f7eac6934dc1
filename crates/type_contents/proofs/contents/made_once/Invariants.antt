use Rattle.std.proofs.Common.{length, ◌≡◌}
use Rattle.type_contents.specs.Views.{AreMadeWithin, AreSettled}
use Rattle.type_contents.proofs.contents.made_once.Given as goal

abbrev pub invariant-loop-made : goal.invariant-loop-made
invariant-loop-made l = record {
  within : AreMadeWithin (length l.table) l.made.items;
  length : length l.made.items ≡ length l.types;
  settled : AreSettled l.types l.table l.made.items l._made;
}
