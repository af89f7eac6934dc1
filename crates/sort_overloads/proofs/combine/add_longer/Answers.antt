use Rattle.std.proofs.Common.{map}
use Rattle.sort_overloads.specs.Tables.{list_of, picked}
use Rattle.sort_overloads.proofs.Loops.{longer-added}
use Rattle.sort_overloads.proofs.combine.add_longer.Goals as goal

pub loop-pick-preserved : goal.loop-pick-preserved
loop-pick-preserved c = record {
  added = λ tables. longer-added (picked tables) (map (list_of tables) c.loop-pick.longer.items) (map (list_of tables) c.args.longer.now.items) (map (list_of tables) c.add_one.new.longer.items)
      (map (picked tables) c.args.list.now) c.args.picks.now c.loop-pick.pick-index _
      c.loop-pick-test.true (c.loop-pick.invariant.added tables) (c.in_ok-add_one.ensures.added tables);
  few = c.in_ok-add_one.ensures.few;
}
