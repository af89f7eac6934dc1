use Rattle.std.proofs.Common.{ℕ, ◌≡◌, ◌++◌, Option, map, drop}
use Rattle.static_processes.specs.Processes.{standing_from, standing_in}
use Rattle.static_processes.specs.Views.{entry_of}
use Rattle.static_processes.specs.WhereParts.{numbers_at}
use Rattle.static_processes.proofs.where_parts.WhereParts.of.Given as goal

abbrev pub invariant-loop-number : goal.invariant-loop-number
invariant-loop-number l = (within : Option ℕ) → numbers_at l.parts within ++ standing_from within l.number (map entry_of (drop l.number l.table))
    ≡ standing_in (map entry_of l.table) within
