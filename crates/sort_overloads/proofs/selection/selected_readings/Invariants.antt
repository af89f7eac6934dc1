use Rattle.std.proofs.Common.{◌≡◌, List, map}
use Rattle.sort_overloads.specs.Listed.{Typed, those}
use Rattle.sort_overloads.specs.Tables.{reading_of, fits}
use Rattle.sort_overloads.proofs.selection.selected_readings.Given as goal

abbrev pub invariant-loop-reading : goal.invariant-loop-reading
invariant-loop-reading l = (tables : List (List Typed)) → map (reading_of tables) l.kept.items ≡ those (fits l.wanted) (map (reading_of tables) l.yielded)
