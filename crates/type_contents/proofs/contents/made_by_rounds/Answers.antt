use Rattle.std.proofs.Common.{length}
use Rattle.type_contents.proofs.Schedules.{none_within, none_made_at}
use Rattle.type_contents.proofs.contents.made_by_rounds.Goals as goal

pub loop-round-init : goal.loop-round-init
loop-round-init c = record {
  within = none_within (length c.args.table.now) c.args.types.now c.in_ok-made.made.items c.in_ok-made.ensures;
  contents = none_made_at c.args.table.now c.args.types.now c.in_ok-made.made.items c.in_ok-made.ensures;
}
