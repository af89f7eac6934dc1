use Rattle.std.proofs.Common.{◌≡◌, ◌++◌, map, take}
use Rattle.std.specs.List.{flat_map}
use Rattle.sort_overloads.specs.Views.{context_of}
use Rattle.static_processes.specs.Headings.{heading_refusals}
use Rattle.static_processes.specs.Views.{entry_of}
use Rattle.static_processes.proofs.refusals.add_table_refusals.Given as goal

abbrev pub invariant-loop-entry : goal.invariant-loop-entry
invariant-loop-entry l = l.refusals.items ≡ l.initial.refusals.items
    ++ flat_map (λ e. heading_refusals (context_of l.scope) e.process) (map entry_of (take l.entry-index l.table))
