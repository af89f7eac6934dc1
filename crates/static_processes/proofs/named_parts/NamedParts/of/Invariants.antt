use Rattle.std.proofs.Common.{ℕ, ◌≡◌, ◌++◌, Option, map, drop}
use Rattle.static_readings.specs.Views.{heading_of}
use Rattle.static_processes.specs.NamedParts.{processes_at, headings_at}
use Rattle.static_processes.specs.Processes.{standing_from, standing_in}
use Rattle.static_processes.specs.Views.{entry_of}
use Rattle.static_processes.proofs.named_parts.NamedParts.of.Given as goal

abbrev pub invariant-loop-number : goal.invariant-loop-number
invariant-loop-number l = (within : Option ℕ) → processes_at l.parts within
    ++ headings_at (map heading_of l.headings) (standing_from within l.number (map entry_of (drop l.number l.table)))
    ≡ headings_at (map heading_of l.headings) (standing_in (map entry_of l.table) within)
