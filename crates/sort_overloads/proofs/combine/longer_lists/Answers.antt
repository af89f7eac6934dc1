use Rattle.std.proofs.Common.{◌++◌, map, ap, ◌∙◌}
use Rattle.sort_overloads.specs.Listed.{two}
use Rattle.sort_overloads.specs.Tables.{list_of, picked, with_last}
use Rattle.sort_overloads.proofs.Loops.{lists-added}
use Rattle.sort_overloads.proofs.combine.longer_lists.Goals as goal

pub loop-list-preserved : goal.loop-list-preserved
loop-list-preserved c = record {
  added = λ tables. lists-added (list_of tables) (map (list_of tables) c.loop-list.longer.items) (map (list_of tables) c.add_longer.new.longer.items) (map (picked tables) c.args.picks.now)
      c.args.lists.now c.loop-list.list-index c.list-item.result
      c.loop-list-test.true c.list-item.is (c.loop-list.invariant.added tables)
      (c.in_ok-add_longer.ensures.added tables
      ∙ ap (λ l. two (map (list_of tables) c.loop-list.longer.items ++ map (with_last (map (picked tables) l)) (map (picked tables) c.args.picks.now))) c.deref.ensures.value);
  few = c.in_ok-add_longer.ensures.few;
}
