use Rattle.std.proofs.Common.{length, ◌≡◌, map, take}
use Rattle.type_contents.specs.Contents as contents
use Rattle.type_contents.specs.Views.{made_at, AreMadeWithin}
use Rattle.type_contents.proofs.contents.next_round.Given as goal

abbrev pub invariant-loop-i : goal.invariant-loop-i
invariant-loop-i l = record {
  kept : take (length l.initial.table) l.table ≡ l.initial.table;
  within : AreMadeWithin (length l.table) l.next.items;
  contents : map (made_at l.table) l.next.items ≡ map (contents.made_from l.types (map (made_at l.initial.table) l.made)) (take l.i l.types);
}
