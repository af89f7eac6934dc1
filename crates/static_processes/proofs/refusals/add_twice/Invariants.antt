use Rattle.std.proofs.Common.{◌≡◌, ◌++◌, map, Some}
use Rattle.std.specs.List.{flat_map, range_with_len}
use Rattle.type_names.specs.DuplicateNames.{names_twice}
use Rattle.static_processes.specs.Processes.{names_in}
use Rattle.static_processes.specs.Views.{entry_of}
use Rattle.static_processes.proofs.refusals.add_twice.Given as goal

abbrev pub invariant-loop-number : goal.invariant-loop-number
invariant-loop-number l = l.refusals.items ≡ l.initial.refusals.items
    ++ flat_map (λ number. names_twice (names_in (map entry_of l.table) (Some number))) (range_with_len 0 l.number)
