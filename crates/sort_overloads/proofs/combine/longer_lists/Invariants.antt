use Rattle.std.proofs.Common.{◌≡◌, ◌≤◌, List, map, take, length}
use Rattle.sort_overloads.specs.Listed.{Typed, two, extended}
use Rattle.sort_overloads.specs.Tables.{list_of, picked}
use Rattle.sort_overloads.proofs.combine.longer_lists.Given as goal

abbrev pub invariant-loop-list : goal.invariant-loop-list
invariant-loop-list l = record {
  added : (tables : List (List Typed)) → map (list_of tables) l.longer.items
      ≡ two (extended (map (list_of tables) (take l.list-index l.lists)) (map (picked tables) l.picks));
  few : length l.longer.items ≤ 2;
}
