use Rattle.std.proofs.Common.{◌≡◌, ◌++◌, List, map}
use Rattle.sort_overloads.specs.Listed.{Typed, application}
use Rattle.sort_overloads.specs.Tables.{reading_of, list_of}
use Rattle.sort_overloads.proofs.operations.add_applications.Given as goal

abbrev pub invariant-loop-list : goal.invariant-loop-list
invariant-loop-list l = (tables : List (List Typed)) →
    map (reading_of tables) l.all.items ≡ map (reading_of tables) l.initial.all.items ++ map (application l.op.0 l.sort.0) (map (list_of tables) l.yielded)
