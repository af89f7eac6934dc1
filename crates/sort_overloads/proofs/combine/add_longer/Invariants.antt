use Rattle.std.proofs.Common.{◌≡◌, ◌≤◌, ◌++◌, List, map, take, length}
use Rattle.sort_overloads.specs.Listed.{Typed, two}
use Rattle.sort_overloads.specs.Tables.{list_of, picked, with_last}
use Rattle.sort_overloads.proofs.combine.add_longer.Given as goal

abbrev pub invariant-loop-pick : goal.invariant-loop-pick
invariant-loop-pick l = record {
  added : (tables : List (List Typed)) → map (list_of tables) l.longer.items
      ≡ two (map (list_of tables) l.initial.longer.items ++ map (with_last (map (picked tables) l.list)) (map (picked tables) (take l.pick-index l.picks)));
  few : length l.longer.items ≤ 2;
}
