use Rattle.std.proofs.Common.{◌≡◌, List, [], map, take}
use Rattle.std.specs.List.{slice_index_or}
use Rattle.sort_overloads.specs.Listed.{Typed, of_sort}
use Rattle.sort_overloads.specs.Tables.{reading_of, picked}
use Rattle.sort_overloads.proofs.combine.picks_of_sort.Given as goal

abbrev pub invariant-loop-i : goal.invariant-loop-i
invariant-loop-i l = (tables inner : List (List Typed)) → slice_index_or tables l.argument [] ≡ map (reading_of inner) l.readings →
    map (picked tables) l.picks.items ≡ of_sort l.sort.0 (map (reading_of inner) (take l.i l.readings))
