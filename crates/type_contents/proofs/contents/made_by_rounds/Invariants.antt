use Rattle.std.proofs.Common.{length, ◌≡◌, map}
use Rattle.type_contents.specs.Contents as contents
use Rattle.type_contents.specs.Rounds.{rounds}
use Rattle.type_contents.specs.Views.{made_at, AreMadeWithin}
use Rattle.type_contents.proofs.contents.made_by_rounds.Given as goal

abbrev pub invariant-loop-round : goal.invariant-loop-round
invariant-loop-round l = record {
  within : AreMadeWithin (length l.table) l.made.items;
  contents : map (made_at l.table) l.made.items ≡ rounds contents.no_content (contents.made_from l.types) l.types l._round;
}
