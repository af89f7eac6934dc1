use Rattle.std.proofs.Common.{◌≡◌, ◌∷◌, [], map, drop}
use Rattle.spec_core.specs.Numbers.{sort_number}
use Rattle.sort_overloads.specs.Listed.{two, argument_lists}
use Rattle.sort_overloads.specs.Tables.{table_of, list_of}
use Rattle.sort_overloads.proofs.combine.first_lists.Given as goal

abbrev pub invariant-loop-i : goal.invariant-loop-i
invariant-loop-i l = two (argument_lists (map (list_of (map table_of l.arguments)) l.lists.items) (map table_of (drop l.i l.arguments)) (map sort_number (drop l.i l.sorts)))
    ≡ two (argument_lists ([] ∷ []) (map table_of l.arguments) (map sort_number l.sorts))
