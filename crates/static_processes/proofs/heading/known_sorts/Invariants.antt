use Rattle.std.proofs.Common.{◌≡◌, map, drop, Some}
use Rattle.spec_core.specs.Numbers.{sort_number}
use Rattle.sort_overloads.specs.Views.{context_of}
use Rattle.static_readings.specs.ReadsAll.{all_before}
use Rattle.static_processes.specs.Headings.{known_sorts}
use Rattle.static_processes.proofs.heading.known_sorts.Given as goal

abbrev pub invariant-loop-name : goal.invariant-loop-name
invariant-loop-name l = all_before (Some (map sort_number l.all.items)) (known_sorts (context_of l.scope) (drop l.name-index l.names))
    ≡ known_sorts (context_of l.scope) l.names
