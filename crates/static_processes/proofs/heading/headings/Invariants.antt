use Rattle.std.proofs.Common.{◌≡◌, ◌++◌, map, drop}
use Rattle.sort_overloads.specs.Views.{context_of}
use Rattle.static_readings.specs.Views.{heading_of}
use Rattle.static_processes.specs.Headings.{headings_from}
use Rattle.static_processes.specs.Views.{entry_of}
use Rattle.static_processes.proofs.heading.headings.Given as goal

abbrev pub invariant-loop-number : goal.invariant-loop-number
invariant-loop-number l = map heading_of l.all.items ++ headings_from (context_of l.scope) l.number (map entry_of (drop l.number l.table))
    ≡ headings_from (context_of l.scope) 0 (map entry_of l.table)
